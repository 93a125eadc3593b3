-- Programs run by hand, step by step.
use Rattle.std.specs.Prelude.{◌≡◌, ℕ, pos, true, List, [], ◌∷◌, ◌++◌, Some, replicate}
use Rattle.insn_codec.specs.declared.insn.Insn.{Insn, TheVariants.Exit}
use Rattle.insn_codec.specs.declared.register.Register.TheVariants.{R1, R2}
use Rattle.loader.specs.declared.version.Version.TheVariants.{Second}
use Rattle.bpf_machine.specs.State.{State, null_values, start_state}
use Rattle.bpf_machine.specs.Trace.{state_after}
use Rattle.bpf_machine.specs.declared.frame.Frame.{Frame}
use Rattle.bpf_machine.specs.declared.status.Status.TheVariants.{Exited}
use Rattle.expression_code.specs.Code.Comparison.{unequal_tail}
use Rattle.expression_code.specs.Code.Calls.{operands_code}
use Rattle.expression_code.specs.Code.Literals.{null_code, null_leaf, truth_code, truth_leaf}
use Rattle.expression_code.specs.Code.Logic.{and_code}
use Rattle.expression_code.specs.FirstUses.{FirstUse, first_uses}
use Rattle.expression_code.specs.Pieces.{spellings}
use Rattle.expression_code.specs.Variables.{memo_tail, use_code}

-- the start of a program that consists of this piece
abbrev pub runs : List Insn → State
runs piece = start_state (record { version = Second; code = spellings piece; constants = [] }) null_values

-- a variable whose value is true, and true; the routine is after the exit, nine slots after the slot that follows its
-- call
abbrev pub variable_and_true : List Insn
variable_and_true = and_code (use_code 0 (pos 9)) (truth_code true) 0 ++ Exit ∷ (truth_code true ++ memo_tail 0)

-- `null != true`: 2 steps for both sides, 1 for the comparison, 2 for its negation, and the exit
abbrev pub null_is_not_true : List Insn
null_is_not_true =
    operands_code (Some null_leaf) null_code (Some (truth_leaf true)) (truth_code true) 0 R1 R2 ++ (unequal_tail ++ Exit ∷ [])

-- the first use of that variable, and of another one whose routine is at slot 30
abbrev pub two_variables : List FirstUse
two_variables = record { routine = 15; steps = 10; charge = 3 } ∷ record { routine = 30; steps = 20; charge = 4 } ∷ []

-- two empty memos
abbrev pub both_empty : List ℕ
both_empty = replicate 16 0

-- the first memo is filled
abbrev pub one_filled : List ℕ
one_filled = 4 ∷ replicate 15 0

-- the record of the program's call, which is at slot 5
abbrev pub its_call : Frame
its_call = record { return_pc = pos 6; r6 = 0; r7 = 0; r8 = 0; r9 = 0 }

-- the steps of first uses of these two variables, from one scratch region to another, with these calls open
abbrev pub used_in : List ℕ → List ℕ → List Frame → ℕ
used_in old new calls = first_uses (runs variable_and_true).image two_variables (λ v. v.steps) old new calls

-- the ends of runs, and the steps of first uses
pub record RunEndRowsHold : Type 0 where
  -- the first variable counts once, if its memo is filled or its routine is open; the other one never counts
  pub filled_counts : used_in both_empty one_filled [] ≡ 10
  pub open_counts : used_in both_empty both_empty (its_call ∷ []) ≡ 10
  pub filled_and_open_counts_once : used_in both_empty one_filled (its_call ∷ []) ≡ 10
  pub filled_before_is_none : used_in one_filled one_filled [] ≡ 0
  pub unused_is_none : used_in both_empty both_empty [] ≡ 0
  pub variable_and_true_exits : (state_after 19 (runs variable_and_true)).status ≡ Exited 3
  pub null_is_not_true_exits : (state_after 6 (runs null_is_not_true)).status ≡ Exited 3
