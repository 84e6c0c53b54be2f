-- A contract of a public call rests on this: the list of files.
pub mod Firsts
pub mod Words
pub mod Hidden
pub mod NameNumbers
pub mod TypeKinds
pub mod Declarations
pub mod Meanings
pub mod Refusals
pub mod NameExamples
pub mod Indexes
pub mod Faults
pub mod Table
