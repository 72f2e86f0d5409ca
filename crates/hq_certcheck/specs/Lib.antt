pub mod Brief
pub mod Concluded
pub mod Covering
pub mod Listed
pub mod Refusals
pub mod Seen
pub mod View
