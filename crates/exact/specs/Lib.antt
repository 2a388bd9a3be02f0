pub mod Optional
pub mod Fraction
pub mod Interval
pub mod Floor
