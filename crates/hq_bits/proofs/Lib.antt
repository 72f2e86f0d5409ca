pub mod Sets
pub mod Words
pub mod Cover
pub mod Shared
pub mod Walked
pub mod First
