pub mod Forms
pub mod Joining
pub mod Placing
pub mod Reading
pub mod Trip
