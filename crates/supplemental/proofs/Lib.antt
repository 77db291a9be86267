pub mod Within
pub mod Answers
