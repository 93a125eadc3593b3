-- The definition of the machine: its state, its steps by RFC 9669, and its runs.

pub mod Limits
pub mod State
pub mod Decoding
pub mod Operands
pub mod Conversions
pub mod Words
pub mod Arithmetic
pub mod Jumps
pub mod HelperCalls
pub mod Access
pub mod Atomics
pub mod Writables
pub mod Slots
pub mod Groups
pub mod Step
pub mod StepResults
pub mod Trace
pub mod Reads
pub mod States
pub mod Starts
pub mod Laws
pub mod Text
pub mod Inside
pub mod Rows
pub mod ReadRows
pub mod InstructionRows
pub use Rattle.insn_codec.specs.Spelled
pub use Rattle.insn_codec.specs.Candidate
pub use Rattle.bpf_word.specs.Arithmetic as WordArithmetic
