pub mod Decision
pub mod Rule
pub mod Table
pub mod Sets
