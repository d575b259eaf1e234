pub mod Codes
pub mod Kinds
pub mod KindsSound
pub mod Model
pub mod Range
pub mod Sending
