-- The laws of the crate, for its own proofs and for the crates above.
pub mod Meetings
pub mod Routes
pub mod Tours
pub mod Drives
pub mod DriveTaken
