pub mod Grammar
pub mod Printed
pub mod Rows
pub mod Gains
pub mod Printing
