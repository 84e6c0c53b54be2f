pub mod Parts
pub mod PartsView
