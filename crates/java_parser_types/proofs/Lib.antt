pub mod ReadLoops
pub mod PushedNesting
pub mod MadePartLoop
pub mod WholeTrees
pub mod KeptTokens
pub mod PutPlaces
pub mod ReadParts
pub mod LastCalls
pub mod LedMarks
pub mod SignLoops
pub mod ExactTypes
mod AngleLoop
