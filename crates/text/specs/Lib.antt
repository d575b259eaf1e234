pub mod Lines
pub mod Fields
pub mod Cursor
pub mod Faults
pub mod Commands
