pub mod Centres
pub mod Formed
pub mod Lines
