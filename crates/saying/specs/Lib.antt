pub mod Names
pub mod Reasons
