pub mod OwnSensor
pub mod FieldsSound
pub mod Plugging
pub mod Wiring
