pub mod Order
pub mod Graph
pub mod Known
