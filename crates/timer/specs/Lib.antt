pub mod Timers
pub mod Intervals
