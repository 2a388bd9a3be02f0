pub mod Spans
pub mod Narrowest
pub mod Laws
pub mod Only
pub mod Nested
