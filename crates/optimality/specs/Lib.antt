pub mod Drive
pub mod Offer
