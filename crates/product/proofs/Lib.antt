pub mod Kept
pub mod Zeros
pub mod ByConstant
pub mod ByUnit
