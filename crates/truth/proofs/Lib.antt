pub mod Steps
pub mod Slopes
pub mod Weights
pub mod Square
pub mod Magnitude
pub mod Branch
pub mod Report
