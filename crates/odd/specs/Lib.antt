pub mod Grid
pub mod Signs
