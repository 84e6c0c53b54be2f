-- A contract of a public call rests on this: the list of files.
pub mod Number
pub mod Statuses
pub mod RunOutputs
pub mod Replays
pub mod Made
pub mod Causes
pub mod Reports
pub mod Requests
pub mod Sessions
pub mod Fresh
pub mod Tails
pub mod Witnesses
