pub mod Orders
pub mod GridRules
pub mod GridOps
pub mod Plain
pub mod Bounds
