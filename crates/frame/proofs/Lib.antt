pub mod GrayWords
pub mod Sent
pub mod Read
