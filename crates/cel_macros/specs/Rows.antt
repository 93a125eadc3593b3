-- The cases worked out by hand, all families together.
pub mod Logic
pub mod Arithmetic
pub mod Comparison
pub mod Selection
pub mod Literals
pub mod Macro
pub mod MacroFault
use Rattle.cel_macros.specs.Rows.Logic.{LogicRows}
use Rattle.cel_macros.specs.Rows.Arithmetic.{ArithmeticRows}
use Rattle.cel_macros.specs.Rows.Comparison.{ComparisonRows}
use Rattle.cel_macros.specs.Rows.Selection.{SelectionRows}
use Rattle.cel_macros.specs.Rows.Literals.{LiteralsRows}
use Rattle.cel_macros.specs.Rows.Macro.{MacroRows}
use Rattle.cel_macros.specs.Rows.MacroFault.{MacroFaultRows}

-- the cases of each family hold
pub record MeaningRowsHold : Type 0 where
  pub logic : LogicRows
  pub arithmetic : ArithmeticRows
  pub comparison : ComparisonRows
  pub selection : SelectionRows
  pub literals : LiteralsRows
  pub macro : MacroRows
  pub macro_fault : MacroFaultRows
