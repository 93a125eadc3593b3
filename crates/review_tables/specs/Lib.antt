-- Definitions for values that are read from JSON texts, and for the tables of reviews.

pub mod Reading
pub mod ReviewReading
pub mod RootKind
pub mod RootPlaces
pub mod OtherRoots
pub mod ReviewTable
pub mod DocumentPool
pub mod MemberText
pub mod Members
