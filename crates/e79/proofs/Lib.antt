-- The figures on plain values. One rounding: Units, Rounded. Several: Ratios, Within. The doubles: Quotients, Products. The printed figures: Printing.
mod Units
mod Rounded
mod Ratios
pub mod Within
pub mod Quotients
pub mod Products
pub mod Printing
