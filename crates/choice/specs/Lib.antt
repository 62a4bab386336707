pub mod Best
pub mod Component
pub mod Sweep
pub mod Picked
