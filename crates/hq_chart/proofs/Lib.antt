pub mod Drawn
pub mod Runs
