-- Functions on texts: the list of their modules.
pub mod Cuts
pub mod Formats
pub mod Ints
pub mod Laws
pub mod Letters
pub mod Parts
pub mod Pieces
pub mod Places
pub mod Rows
