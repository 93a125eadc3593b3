-- Proofs of value_widths: the list of their modules.
pub mod Parts
