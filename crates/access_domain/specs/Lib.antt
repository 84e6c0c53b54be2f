-- A contract of a public call rests on this: the list of files.
pub mod Records
pub mod Additions
pub mod Findings
pub mod FlowContext
pub mod Reached
pub mod Substitution
pub mod Operations
pub mod Flow
pub mod Summaries
pub mod OutcomeRecords
pub mod Examples
pub mod Outcomes
pub mod Origins
pub mod Numbered
pub mod Longer
