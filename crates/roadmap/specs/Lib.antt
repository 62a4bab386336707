pub mod Joined
pub mod Chart
pub mod Words
