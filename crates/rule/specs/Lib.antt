pub mod Exact
pub mod Rule
pub mod Fit
pub mod Records
pub mod Lent
pub mod Placed
