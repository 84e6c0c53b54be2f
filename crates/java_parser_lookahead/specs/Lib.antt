pub mod LeadView
pub mod GoingOn
pub mod NearerLevels
pub mod MarkLeads
pub mod StatementLeadView
pub mod FirstParenthesis
pub mod AwaitedBrackets
pub mod LambdaPlaces
