-- What follows from the promise alone, and how an answer comes to be the one promised.
pub mod Verdicts
pub mod Unique
pub mod Bounds
pub mod Sounds
pub mod Parking
