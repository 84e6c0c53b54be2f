pub mod GroupMarks
pub mod Movable
