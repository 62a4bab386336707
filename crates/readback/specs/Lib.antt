pub mod Reading
pub mod Reply
pub mod Block
