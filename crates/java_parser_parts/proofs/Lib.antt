pub mod SeenParts
pub mod NextParts
pub mod LabelLoops
