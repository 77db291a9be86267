pub mod Arrays
pub mod Told
