-- What is read at keys of JSON documents.
pub mod Fields
pub mod Members
