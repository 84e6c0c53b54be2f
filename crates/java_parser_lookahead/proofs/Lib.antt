pub mod FirstClosing
pub mod BracketLoops
