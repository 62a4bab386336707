pub mod Bytes
pub mod Plans
pub mod Claim
pub mod Certificate
pub mod Figure
pub mod Cases
