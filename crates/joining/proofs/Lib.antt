pub mod MovedBytes
pub mod MovedLists
pub mod Turning
pub mod Laid
pub mod Answering
