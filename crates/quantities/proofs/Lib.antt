-- Proofs of quantities: the list of their modules.
pub mod Caps
pub mod Exponents
pub mod Ints
pub mod Made
pub mod Signs
pub mod ByParts
pub mod Zeros
