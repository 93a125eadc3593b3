-- Definitions for the calls of the libraries: statuses, output, and the calls without a gate.

pub mod Statuses
pub mod Output
pub mod Calls
pub mod WideCalls
