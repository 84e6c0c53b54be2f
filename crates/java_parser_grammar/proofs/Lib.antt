pub mod SoundJava
pub mod ReadMethods
pub mod StatementFronts
pub mod LambdaParameters
pub mod Angles
pub mod NoAngles
pub mod LooksLocal
pub mod FoundLists
pub mod FindingReaders
pub mod FoundParts
pub mod FoundRowParts
pub mod FoundForms
pub mod FoundRows
pub mod FoundGroups
pub mod Unlabelled
pub mod ReadableRows
pub mod LongerStatements
pub mod FoundStatements
pub mod Annotations
pub mod FoundMethods
pub mod SoundSteps
pub mod SoundParts
pub mod SoundForms
pub mod SoundRowParts
pub mod SoundRows
pub mod SoundStatements
pub mod SoundAnnotations
pub mod SoundMethods
pub mod FoundJava
pub mod ListedVariables
pub mod TypeFronts
pub mod CommaLoops
pub mod FoundTypes
pub mod FoundMadeTypes
pub mod OperatorTexts
pub mod GrammarFronts
pub mod Behind
pub mod Levels
pub mod Taken
pub mod Steps
pub mod Operands
pub mod Lengths
pub mod Casts
pub mod Meetings
pub mod MetLists
pub mod MetForms
pub mod FoundExpressions
pub mod Ensuring
pub mod SoundTypes
pub mod LeadFacts
pub mod SoundLists
pub mod SoundTurns
pub mod SoundOperands
pub mod SoundExpressions
pub mod Joined
pub mod OneCut
pub mod Appended
pub mod OneDivision
mod NoTrees
mod ItemLetters
pub mod Fronts
mod SeenLetters
mod OneDeclaration
pub mod WalkedFiles
mod CountedMembers
pub mod Misfits
mod UnfitRows
mod FoundTested
mod FoundTypeLists
mod SoundTypeLists
mod BalancedTokens
mod FoundTokens
mod NoLambda
mod LeavesForms
mod TypeNames
mod SoundTokens
mod SoundNames
mod LocalTypes
mod FoundClasses
pub mod OneModifier
pub mod ReadHeads
