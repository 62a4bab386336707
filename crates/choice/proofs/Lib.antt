pub mod Kosaraju
pub mod Components
pub mod Kept
pub mod Judging
pub mod Sweeps
