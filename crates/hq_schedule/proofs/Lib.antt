pub mod Submitting
pub mod Settling
