mod Given
mod Unfound
mod RecoveredChunks
