pub mod LeastPrefix
pub mod FewTurns
pub mod SaidOfWays
pub mod FoundPrefixes
pub mod WarningMarks
pub mod ReplayedRuns
pub mod MarkTurns
pub mod TypedMarks
