-- The type table of expressions, the type checker's results, and what is proved of types.

pub mod Types
pub mod ErrorCodes
pub mod Scope
pub mod TypeTable
pub mod Typing
pub mod CoreTyping
pub mod Declarations
pub mod Iterations
pub mod Soundness
pub mod TypeRows
pub mod Relation
pub mod Laws
pub mod Rows
