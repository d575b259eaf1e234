pub mod Refused
mod Stills
