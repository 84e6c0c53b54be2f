-- A contract of a public call rests on this: the list of files.
pub mod Ties
pub mod Forms
pub mod Shapes
pub mod Outcomes
pub mod Again
pub mod Partners
pub mod Making
pub mod Names
pub mod Examples
