pub mod Fields
pub mod Log
pub mod Encode
pub mod Covers
pub mod Whole
