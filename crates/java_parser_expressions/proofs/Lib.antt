mod LastCalls
mod TokensLeft
mod CastChoice
mod BareParts
pub mod ClassFacts
pub mod ExpressionLoops
pub mod TurnSteps
mod PartReading
mod NestedParentheses
mod TypesBefore
pub mod MarkShapes
pub mod ViewShapes
pub mod ExpressionLayers
pub mod ExpressionShapes
