pub mod Gray
pub mod Layout
pub mod Numbers
pub mod ReadBack
