-- The definitions of cluster_plan, file by file.
pub mod Quotes
pub mod Steps
pub mod Rows
