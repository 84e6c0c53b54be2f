pub mod SameEnds
pub mod ModifierSteps
pub mod DeclaredFields
pub mod VariableSteps
pub mod DivisionSteps
pub mod LastPartSteps
pub mod ResultSteps
pub mod Zips
pub mod Refusals
mod FirstItem
mod OpenStack
mod OpenSteps
mod FirstMember
mod FirstPiece
pub mod Walks
mod DeclarationSteps
pub mod HeadSteps
mod TypeSteps
mod FileTypes
pub mod ClassSteps
pub mod UnitSteps
pub mod SameFields
pub mod SameHeads
pub mod SameClasses
mod SomeTokens
