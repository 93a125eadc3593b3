-- The measures of expressions: nodes, stack words and depths.

pub mod Measures
pub mod Saturated
pub mod Rows
pub mod Parts
pub mod SourceMeasures
