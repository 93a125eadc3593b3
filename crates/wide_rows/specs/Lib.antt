-- Definitions of wide_rows: the list of their modules.
pub mod TokenRows
pub mod ReaderRows
pub mod KindRows
pub mod MeaningRows
pub mod MacroMeaningRows
pub mod PolicyRows
pub mod DecisionRows
pub mod TableRows
