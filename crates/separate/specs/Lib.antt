pub mod Separation
pub mod Example
