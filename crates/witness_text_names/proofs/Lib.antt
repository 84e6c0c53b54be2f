pub mod EntrySearch
pub mod FieldsIndexed
pub mod NamesCut
pub mod NextNamed
pub mod PathsGathered
pub mod RootsIndexed
pub mod Walks
pub mod CellWalks
