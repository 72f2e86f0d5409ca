pub mod Single
pub mod Between
pub mod Staying
pub mod Trials
pub mod Whole
pub mod Texts
pub mod Foreseeing
