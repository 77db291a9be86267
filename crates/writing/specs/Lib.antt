pub mod Writing
pub mod Runs
pub mod Storing
pub mod Cases
