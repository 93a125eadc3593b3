-- Literal rows by the crate whose definitions they pin: the list of their modules.
pub mod TokenRows
pub mod ReaderRows
pub mod MacroRows
pub mod TypeRows
pub mod MeasureRows
pub mod CodeRows
pub mod PolicyRows
pub mod PartRows
pub mod KubernetesRows
