pub mod Answers
pub mod Begun
pub mod Dealing
pub mod Dialogue
pub mod Told
pub mod Windows
