pub mod Decimals
pub mod Lengths
pub mod Lines
pub mod Tables
pub mod Cases
