-- Rows and laws of cluster_rows: the list of their modules.
pub mod Selectors
pub mod Matching
pub mod State
pub mod ParamOrder
pub mod Lines
pub mod Responses
pub mod Reviews
pub mod Refusals
pub mod Gates
pub mod Commands
pub mod Words
pub mod Gatekeeper
pub mod Translations
pub mod Depths
pub mod Status
