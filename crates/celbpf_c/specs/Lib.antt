-- Definitions for the C interface: places for gates, and the calls on them.

pub mod Places
pub mod Calls
pub mod WideCalls
