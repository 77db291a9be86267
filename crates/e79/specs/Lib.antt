pub mod Quantities
pub mod Doubles
pub mod Accuracy
pub mod Printed
