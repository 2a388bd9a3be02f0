pub mod Scaled
pub mod Bent
pub mod Unit
