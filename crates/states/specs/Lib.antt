pub mod State
pub mod Tally
pub mod Held
