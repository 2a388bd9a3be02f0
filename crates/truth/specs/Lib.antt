pub mod Truth
pub mod Curve
