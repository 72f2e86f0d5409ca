pub mod Wrapping
pub mod Linking
pub mod Telling
