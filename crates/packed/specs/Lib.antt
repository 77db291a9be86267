pub mod Packed
pub mod OnePass
pub mod Claims
pub mod Packs
