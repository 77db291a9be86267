pub mod Buffer
pub mod Numbers
pub mod Right
pub mod Texts
