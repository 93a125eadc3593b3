-- Definitions of wide_policy: the list of their modules.
pub mod WideTrees
pub mod Depth
pub mod WideEvaluation
pub mod NarrowTrees
pub mod Carrying
pub mod WideDocuments
pub mod Rows
pub mod Errors
pub mod Taking
pub mod Returns
pub mod Reading
pub mod Laws
