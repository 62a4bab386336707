-- The bound of demand 3 and the tour that meets it, for the crates above.
pub mod Nodes
pub mod Bound
pub mod Best
pub mod Witness
pub mod Colours
