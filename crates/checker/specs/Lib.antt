pub mod Break
pub mod Drive
pub mod Passing
pub mod Roads
pub mod Outcome
pub mod Check
pub mod Block
pub mod Worth
