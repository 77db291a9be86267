pub mod OffCard
pub mod Numbers
pub mod Refusals
