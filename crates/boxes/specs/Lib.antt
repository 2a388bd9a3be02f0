pub mod Boxes
pub mod Moving
pub mod Rising
pub mod Stored
