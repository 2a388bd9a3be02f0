pub mod Numbers
pub mod Groups
pub mod Trips
pub mod Places
