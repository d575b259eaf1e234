pub mod ControlWords
pub mod Delivery
pub mod Steps
pub mod Timing
pub mod Under
