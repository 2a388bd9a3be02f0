pub mod Rules
pub mod Truth
pub mod Curves
