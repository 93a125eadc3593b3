-- Proofs of wide_reach: the list of their modules.
pub mod Lists
pub mod Reached
pub mod Results
pub mod Truths
pub mod Ranged
pub mod Operations
pub mod Calls
pub mod Names
pub mod Law
pub mod Variables
pub mod WideViews
pub mod ListSteps
pub mod CallSteps
