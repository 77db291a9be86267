pub mod Bounds
pub mod Accepted
pub mod ToolSums
pub mod Judging
