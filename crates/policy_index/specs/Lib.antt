-- Which match resources may match requests on a resource, and an index of them by resource.

pub mod Building
pub mod Indexes
pub mod Laws
pub mod Naming
pub mod Rows
