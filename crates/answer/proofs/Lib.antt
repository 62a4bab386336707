pub mod Blocks
pub mod Texts
pub mod Figures
