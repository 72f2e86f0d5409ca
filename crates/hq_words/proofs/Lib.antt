pub mod AskedFor
pub mod Below
pub mod Alone
mod Plain
