pub mod Listing
pub mod Credits
