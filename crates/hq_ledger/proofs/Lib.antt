mod Notes
mod Homes
mod Clear
