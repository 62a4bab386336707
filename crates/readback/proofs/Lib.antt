pub mod ReadsBack
pub mod PrintsBack
pub mod Judging
pub mod Blocks
