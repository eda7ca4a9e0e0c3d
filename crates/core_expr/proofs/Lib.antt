pub mod Chains
pub mod CoreViews
pub mod Counted
pub mod Depths
pub mod Faults
pub mod OwnParts
pub mod Turns
pub mod Worded
