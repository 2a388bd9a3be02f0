pub mod Guesses
pub mod Masks
pub mod Scales
pub mod Rounds
pub mod Ops
pub mod Products
pub mod Stored
