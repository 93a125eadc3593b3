-- Definitions for emitters: what they have, and what the code does that they add. The definitions of the code of an
-- expression are those of `tree_code`.

pub mod Emitted
pub mod ErrorCodes
pub mod Laws
pub mod Added
pub mod Layer
pub mod Emission
pub use Rattle.tree_code.specs.Cost
pub use Rattle.tree_code.specs.CostRows
pub use Rattle.tree_code.specs.Constants
pub use Rattle.tree_code.specs.FrameWords
pub use Rattle.tree_code.specs.Code
pub use Rattle.tree_code.specs.NameTable
pub use Rattle.tree_code.specs.Accepted
pub use Rattle.tree_code.specs.HasLiterals
pub use Rattle.tree_code.specs.Computes
