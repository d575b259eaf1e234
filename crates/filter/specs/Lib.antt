pub mod Filters
pub mod Debounces
pub mod Settling
