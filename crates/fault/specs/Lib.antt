pub mod Causes
pub mod Refusals
