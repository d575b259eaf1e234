pub mod Steps
pub mod Counts
pub mod Ticks
