pub mod Charts
pub mod Gains
pub mod Paths
pub mod Exits
pub mod Pairs
pub mod Bare
