pub mod Control
pub mod Phase
pub mod Registers
pub mod Timing
