pub mod Benchmarks
pub mod Taking
