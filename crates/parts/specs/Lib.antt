pub mod Interrupts
pub mod Inputs
pub mod Snapshots
