pub mod Counting
pub mod SameReasons
pub mod SameSources
pub mod SameCalls
pub mod LowRows
pub mod Ordered
pub mod SamePrograms
pub mod Loops
