pub mod OneSource
