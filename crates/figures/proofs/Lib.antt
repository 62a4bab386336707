-- From a passed test to the claim.
pub mod Certificates
pub mod Routes
pub mod Answers
pub mod Figures
