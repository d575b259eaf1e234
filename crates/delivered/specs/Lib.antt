pub mod Delivery
pub mod Example
