pub mod Frames
pub mod KindLaws
pub mod Ranges
pub mod Soundness
