pub mod Joining
pub mod Betweens
pub mod Reasons
pub mod Texts
