-- The state of a cluster: items, objects, bindings, policies, params and namespaces, and why lists are refused.

pub mod Bindings
pub mod Collections
pub mod DataSets
pub mod FailurePolicies
pub mod Items
pub mod Laws
pub mod Numbers
pub mod Objects
pub mod Params
pub mod Parts
pub mod Policies
pub mod Reading
pub mod Refusals
pub mod Rows
pub mod State
pub mod Names
pub mod Indexes
pub mod Serving
pub mod Shapes
pub mod Scopes
pub mod ShapedScopes
