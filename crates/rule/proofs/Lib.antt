pub mod AllTrue
pub mod Constants
pub mod Exits
pub mod Fits
pub mod Places
pub mod Puts
pub mod Ranges
pub mod Tells
