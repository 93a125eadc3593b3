-- The definitions of cluster_response, file by file.
pub mod Annotations
pub mod Events
pub mod Firsts
pub mod Keeping
pub mod Laws
pub mod Members
pub mod Messages
pub mod Refusals
pub mod Response
pub mod Rows
