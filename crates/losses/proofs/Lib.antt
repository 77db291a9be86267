-- Served: who gets one of the missing. AddUp: what the shares are worth.
pub mod Served
pub mod AddUp
