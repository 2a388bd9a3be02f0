pub mod MagnitudeBends
pub mod SquareBends
pub mod Straight
