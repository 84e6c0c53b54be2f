pub mod NamedVariables
pub mod Pieces
pub mod Fronts
pub mod Borders
pub mod FallsThrough
pub mod Innermost
