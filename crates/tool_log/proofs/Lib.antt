pub mod DemandThree
pub mod Enough
pub mod PackedTold
