pub mod Faults
pub mod Placing
pub mod Least
