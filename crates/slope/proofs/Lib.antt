pub mod Chains
pub mod PartsTrue
pub mod ChoicesTrue
pub mod Zeros
pub mod Unit
