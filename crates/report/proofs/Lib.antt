pub mod Distances
pub mod Ranges
pub mod Margins
