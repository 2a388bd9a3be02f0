pub mod Contents
pub mod Calls
pub mod Reading
pub mod Moving
