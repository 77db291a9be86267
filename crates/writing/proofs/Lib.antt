pub mod Cases
pub mod Fitting
pub mod Bytes
pub mod Laying
pub mod Adding
pub mod Kept
pub mod Finished
pub mod Rewriting
