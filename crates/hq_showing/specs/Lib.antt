pub mod Show
pub mod Pack
pub mod Packing
