-- Definitions of text_kernels: the list of their modules.
pub mod Scans
pub mod Characters
pub mod Rows
