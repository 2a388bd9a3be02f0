pub mod Grid
pub mod Marks
pub mod Ratios
pub mod Rules
