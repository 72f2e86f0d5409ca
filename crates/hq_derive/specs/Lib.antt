pub mod Short
pub mod Rests
pub mod Gathered
pub mod Needed
pub mod Through
