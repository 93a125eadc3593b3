-- The definitions of cluster_gate, file by file.
pub mod Texts
pub mod CompiledDocuments
pub mod Gates
pub mod Dispatch
pub mod Running
pub mod Laws
pub mod Orders
pub mod OnePolicy
pub mod StepRows
pub mod Servers
pub mod Opened
pub mod Tables
pub mod Beside
