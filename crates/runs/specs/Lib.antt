pub mod Events
pub mod Runs
pub mod Law
