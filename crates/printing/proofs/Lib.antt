pub mod Numbers
pub mod Printing
pub mod Lines
