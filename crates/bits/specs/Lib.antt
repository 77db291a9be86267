pub mod Bits
pub mod Put
pub mod Words
