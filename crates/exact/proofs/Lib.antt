pub mod Ring
pub mod Integers
pub mod Fractions
pub mod Order
pub mod Extremes
pub mod Signs
pub mod Division
pub mod Floors
