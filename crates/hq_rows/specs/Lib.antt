pub mod Lists
pub mod Matrix
pub mod Turning
pub mod Uniting
