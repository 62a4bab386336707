-- The laws of the crate.
pub mod Passing
pub mod Drawn
pub mod Breaks
pub mod Respelled
pub mod Drives
pub mod Roads
pub mod Scans
pub mod Blocks
pub mod Answering
pub mod Worths
pub mod Rulings
pub mod Parking
