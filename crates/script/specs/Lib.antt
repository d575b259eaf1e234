pub mod Output
pub mod Cursor
pub mod Runs
pub mod Refusals
