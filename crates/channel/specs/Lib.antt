pub mod Lines
pub mod Records
pub mod Ticks
pub mod Modes
pub mod Snapshots
pub mod Registers
pub mod Shares
