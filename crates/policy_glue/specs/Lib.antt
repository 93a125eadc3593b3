-- Definitions for policies: their documents, their compilation, their verdicts and their responses. The definitions of
-- what they decide and of their programs are those of `policy_code`.

pub mod BudgetRows
pub mod Checked
pub mod Checking
pub mod CompileErrors
pub mod Compiled
pub mod DecisionRows
pub mod ErrorCodes
pub mod FindingRows
pub mod Limits
pub mod Naming
pub mod NamingRows
pub mod OneAnswer
pub mod OneImage
pub mod LimitRows
pub mod Rows
pub mod RunRows
pub mod RejectionRows
pub use Rattle.policy_code.specs.Budget
pub use Rattle.policy_code.specs.Evaluation
pub use Rattle.policy_code.specs.ProgramLaws
pub use Rattle.policy_code.specs.ProgramTrees
pub use Rattle.policy_code.specs.Trees
pub use Rattle.value_store.specs.Documents
pub use Rattle.verdicts.specs.Denials
pub use Rattle.verdicts.specs.FindingWords
pub use Rattle.verdicts.specs.Findings
pub use Rattle.verdicts.specs.Policy
pub use Rattle.verdicts.specs.Reading
pub use Rattle.verdicts.specs.Rejections
pub use Rattle.verdicts.specs.Response
pub use Rattle.verdicts.specs.ResponseTokens
pub use Rattle.verdicts.specs.Verdict
pub use Rattle.verdicts.specs.Words as Layout
