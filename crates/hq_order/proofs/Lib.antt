pub mod Single
pub mod Turns
pub mod Closure
pub mod Middles
pub mod Scopes
pub mod Swept
pub mod Stepping
