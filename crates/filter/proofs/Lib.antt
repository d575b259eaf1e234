pub mod Held
pub mod Steady
pub mod Timings
