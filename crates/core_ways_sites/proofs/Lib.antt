pub mod LeadsOn
pub mod SiteLeads
pub mod Noted
pub mod KnownWays
