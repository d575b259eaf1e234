pub mod ClockLaws
pub mod LineLaws
