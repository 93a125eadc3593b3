-- The proofs of `review_tables`.

pub mod Conversion
pub mod PlacedValues
pub mod PlacedMembers
pub mod ReadLoops
pub mod Turns
pub mod CheckLoops
pub mod RequestReading
pub mod ReviewReading
pub mod RootKinds
pub mod RootsInOrder
pub mod ReviewTables
pub mod Pools
pub mod MemberTexts
mod Membered
mod Inserted
