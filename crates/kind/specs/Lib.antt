pub mod Model
pub mod Rounding
pub mod Grid
