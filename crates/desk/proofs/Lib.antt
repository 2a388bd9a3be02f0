pub mod Lent
pub mod Sayings
pub mod Led
pub mod Dialogues
