pub mod Words
pub mod ClosingUp
pub mod Passing
pub mod Finishing
