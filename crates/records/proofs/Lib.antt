pub mod Places
pub mod UpTo
pub mod Widths
pub mod RecordKinds
pub mod RoundTrip
