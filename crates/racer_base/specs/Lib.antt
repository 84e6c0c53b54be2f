pub mod Name
pub mod Limits
pub mod Texts
pub mod Outside
pub mod Causes
pub mod StdSink
