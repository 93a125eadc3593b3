-- Proofs of wide_widths: the list of their modules.
pub mod Values
pub mod Lists
pub mod Results
pub mod Within
pub mod ListMethods
pub mod Calls
pub mod Macros
pub mod Law
