-- What the parts ask of one another.
pub mod Steps
