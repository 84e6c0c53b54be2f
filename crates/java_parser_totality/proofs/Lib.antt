pub mod Vectors
pub mod Parts
mod PartTokens
pub mod MadeTypes
pub mod ExpressionForms
pub mod MadeExpressions
pub mod StatementForms
pub mod MadeRows
pub mod MadeStatementParts
pub mod MadeRowParts
pub mod MadeStatements
pub mod MadeMethods
pub mod Deciding
pub mod DecidingTrees
pub mod Splits
pub mod TotalHeads
pub mod TotalFields
pub mod Filling
pub mod TotalMembers
pub mod TotalUnits
pub mod FewTokens
mod MadeMarks
mod MadeReferred
mod MadeClasses
mod MadeWords
