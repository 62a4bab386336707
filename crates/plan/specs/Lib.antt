pub mod Refusal
pub mod Returned
pub mod Answers
pub mod WellFormed
pub mod Size
pub mod Tour
pub mod Cost
pub mod Key
