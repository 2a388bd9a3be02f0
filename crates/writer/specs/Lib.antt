pub mod Writing
pub mod Trips
pub mod Pens
