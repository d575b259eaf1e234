pub mod Status
pub mod Counters
pub mod Registers
