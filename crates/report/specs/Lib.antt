pub mod Reports
pub mod Near
