pub mod Colours
pub mod Route
pub mod Drive
