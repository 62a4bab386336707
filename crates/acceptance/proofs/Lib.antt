-- The laws of the crate, for the crates above.
pub mod Stretches
pub mod Turns
pub mod Closure
pub mod Decision
pub mod Automata
pub mod Readings
pub mod Gathers
pub mod Following
pub mod Words
pub mod Links
pub mod Deciding
pub mod Filling
pub mod Forward
pub mod Tabling
pub mod Courses
pub mod Agreeing
pub mod Judging
