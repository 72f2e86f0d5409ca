pub mod Signal
pub mod Table
pub mod View
