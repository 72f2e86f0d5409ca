pub mod Circuits
pub mod Judgement
pub mod Asking
