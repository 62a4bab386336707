-- The laws of the crate, for the crates above.
pub mod Tests
pub mod Bits
pub mod Members
pub mod Least
pub mod Marks
pub mod Sums
