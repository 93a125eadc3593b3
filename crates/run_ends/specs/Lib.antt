-- Definitions of run_ends: the list of their modules.
pub mod Exiting
