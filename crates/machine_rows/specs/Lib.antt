-- Rows and laws of machine_rows: the list of their modules.
pub mod WordRows
pub mod InstructionRows
pub mod MemoryRows
pub mod ImageRows
pub mod StreamRows
pub mod SourceRows
pub mod ValueRows
pub mod HelperRows
pub mod RunRows
pub mod ExpressionReads
pub mod SessionRows
pub mod RoundTrip
