pub mod Clocks
pub mod Lines
