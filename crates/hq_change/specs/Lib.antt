pub mod Levels
pub mod Between
pub mod Minimal
pub mod Foresight
