-- What is read in JSON documents of the Kubernetes API: selectors, match resources and requests.

pub mod Fields
pub mod Matching
pub mod Requests
pub mod Rows
pub mod Selectors
pub use Rattle.json_fields.specs.Fields as Documents
