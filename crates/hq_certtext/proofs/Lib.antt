pub mod Puts
pub mod Split
pub mod Holds
pub mod Placed
