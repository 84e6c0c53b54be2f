-- The list of files.
pub mod PlaceValues
pub mod KindedCode
pub mod KindedSteps
pub mod KindedRuns
pub mod KindValues
pub mod ObjectCode
pub mod Bases
pub mod Reading
pub mod InnerKept
pub mod ObjectsKept
pub mod Beginnings
pub mod ReadsRight
pub mod CellsRight
pub mod RightObjects
pub mod HeldObjects
