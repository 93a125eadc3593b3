-- The code of literals and of whole expressions.
pub mod Literals
pub mod KeptLists
pub mod Expressions
pub mod Whole
