pub mod Supplemental
pub mod Calls
