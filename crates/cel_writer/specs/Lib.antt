-- Definitions of cel_writer: the list of their modules.
pub mod Printed
pub mod Same
pub mod Writing
pub mod Rows
