mod Turns
pub mod Counted
