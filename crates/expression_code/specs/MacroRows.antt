-- Macros run by hand, step by step.
use Rattle.std.specs.Prelude.{◌≡◌, true, false, List, [], ◌∷◌, ◌++◌}
use Rattle.insn_codec.specs.declared.insn.Insn.{Insn, TheVariants.Exit}
use Rattle.bpf_machine.specs.Trace.{state_after}
use Rattle.bpf_machine.specs.declared.status.Status.TheVariants.{Exited}
use Rattle.expression_code.specs.Code.Aggregates.{item_code, list_code}
use Rattle.expression_code.specs.Code.Folds.{all_code, exists_one_code}
use Rattle.expression_code.specs.Code.Literals.{null_code, truth_code}
use Rattle.expression_code.specs.Code.Leaves.{leaf_code}
use Rattle.expression_code.specs.Rows.{runs}
use Rattle.expression_code.specs.declared.simple_operand.SimpleOperand.TheVariants.{Word}

-- `[true, false].exists_one(x, x)`: 12 steps for the list, 7 for its count, 2 for the first result, 3 to the first
-- item, 15 and 10 for the items, 1 after them, 2 for the end, and the exit
abbrev pub one_of_two : List Insn
one_of_two = exists_one_code 0 (list_code (item_code (truth_code true) 0 ++ item_code (truth_code false) 0) 0) (leaf_code (Word 4))
    ++ Exit ∷ []

-- `[false, null].all(x, x)`: 12 steps for the list, 7 for its count, 2 for the first result, 8 for the first item,
-- which decides, and the exit
abbrev pub first_decides : List Insn
first_decides = all_code 0 (list_code (item_code (truth_code false) 0 ++ item_code null_code 0) 0) (leaf_code (Word 4)) ++ Exit ∷ []

-- `null.all(x, x)`: 1 step for the range, 6 for its count, and the exit
abbrev pub over_no_range : List Insn
over_no_range = all_code 0 null_code (leaf_code (Word 4)) ++ Exit ∷ []

pub record MacroRowsStand : Type 0 where
  pub one_of_two_exits : (state_after 53 (runs one_of_two)).status ≡ Exited 3
  pub first_decides_exits : (state_after 30 (runs first_decides)).status ≡ Exited 2
  pub over_no_range_exits : (state_after 8 (runs over_no_range)).status ≡ Exited 0
