pub mod Pairs
pub mod Line
pub mod Keys
pub mod Blocks
pub mod Map
pub mod Reading
