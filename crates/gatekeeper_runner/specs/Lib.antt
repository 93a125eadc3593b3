-- Definitions for the gatekeeper: its command line, its decisions, its answers and its program.

pub mod Refusals
pub mod Orders
pub mod FileFaults
pub mod About
pub mod Policies
pub mod Cluster
pub mod Translating
pub mod Endings
pub mod Program
pub mod SameAnswers
