-- The promises of the entries, from what the parts ensure.
pub mod Blocks
pub mod RoundTrip
pub mod OwnTour
pub mod AsBefore
