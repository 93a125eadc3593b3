-- Definitions and laws for code that gives values: instructions, runs, budgets, and the code of each construct.

pub mod Limits
pub mod CpuState
pub mod Words
pub mod Calls
pub mod FirstUses
pub mod Engine
pub mod Pieces
pub mod Paths
pub mod Contexts
pub mod Loops
pub mod Variables
pub mod Programs
pub mod Helpers
pub mod Instructions
pub mod Code
pub mod Gives
pub mod Operators
pub mod Scopes
pub mod Rows
pub mod MacroRows
