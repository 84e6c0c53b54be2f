pub mod FileList
pub mod Failing
pub mod MemoryFolder
pub mod MemorySink
