pub mod Chains
pub mod Testing
pub mod Turns
pub mod Crediting
pub mod Counting
