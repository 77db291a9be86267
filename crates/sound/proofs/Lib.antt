pub mod Codes
pub mod Force
pub mod Encoded
