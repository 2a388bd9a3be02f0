pub mod Back
pub mod There
pub mod Overlay
pub mod Groups
pub mod LineBytes
pub mod LinesBytes
pub mod Pens
