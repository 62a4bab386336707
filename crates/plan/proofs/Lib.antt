-- The laws of the crate, for the crates above.
pub mod Products
pub mod Sums
pub mod Ties
pub mod Keys
pub mod Joins
pub mod Tours
pub mod Parking
pub mod Repeats
pub mod Charging
pub mod Counts
pub mod Rooms
pub mod Numbers
pub mod Rules
pub mod Watching
