pub mod Below
pub mod Bits
pub mod Least
pub mod Marks
