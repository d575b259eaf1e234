pub mod Flight
pub mod Changes
pub mod Moves
pub mod Ticks
pub mod Aloft
pub mod Shown
pub mod Stands
pub mod Computed
