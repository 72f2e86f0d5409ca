pub mod Founded
pub mod Growing
pub mod Adding
pub mod Branching
pub mod Noting
pub mod Storing
pub mod Middles
