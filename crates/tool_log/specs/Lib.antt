pub mod Demands
pub mod Packing
