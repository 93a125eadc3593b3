-- Definitions for the programs of policies: what a policy decides, the code that decides it, and how it is emitted.

pub mod Budget
pub mod Checked
pub mod Emission
pub mod Evaluation
pub mod Limits
pub mod Program
pub mod ProgramCode
pub mod ProgramLaws
pub mod ProgramParts
pub mod ProgramTrees
pub mod Scopes
pub mod Trees
pub use Rattle.verdicts.specs.Layout
pub use Rattle.verdicts.specs.Verdict
