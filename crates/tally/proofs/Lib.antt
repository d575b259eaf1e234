pub mod Totals
pub mod Stands
