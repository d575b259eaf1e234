mod Words
mod Named
mod Same
mod Writes
mod Shown
mod Calls
pub mod Apart
pub mod Witness
