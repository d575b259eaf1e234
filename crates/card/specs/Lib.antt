pub mod Shared
pub mod Records
pub mod Snapshots
pub mod Words
pub mod SharedRegisters
pub mod Registers
pub mod Calls
