pub mod Lines
pub mod Texts
pub mod Accesses
pub mod Prefixes
