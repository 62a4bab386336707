pub mod Seeking
pub mod Drafting
pub mod DrawnBack
