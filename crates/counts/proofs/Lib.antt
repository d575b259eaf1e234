pub mod Parts
pub mod Registers
pub mod Cards
pub mod Stands
pub mod Bounds
pub mod Offsets
pub mod Counted
pub mod Shown
