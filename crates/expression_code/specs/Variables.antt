-- Variables. Each has a memo, which is a word of the scratch region, and a routine that fills it at the first use.
-- Emitted by `tree_code/src/code/variables.rt`; proofs in `proofs/Variables` and `proofs/Returns`.
use Rattle.std.specs.Prelude.{◌≡◌, ℕ, ◌+◌, ◌<◌, ◌≤◌, ℤ, pos, negsuc, ◌+ℤ◌, List, [], ◌∷◌, ◌++◌, length, Bool}
use Rattle.bpf_machine.specs.Limits.{record_limit}
use Rattle.insn_codec.specs.declared.alu_op.AluOp.TheVariants.{Add}
use Rattle.insn_codec.specs.declared.comparison.Comparison.TheVariants.{Ne}
use Rattle.insn_codec.specs.declared.insn.Insn.{Insn}
use Rattle.insn_codec.specs.declared.insn.Insn.TheVariants.{Alu, Branch, CallLocal, Exit, Load, LoadWide, Store}
use Rattle.insn_codec.specs.declared.operand.Operand.TheVariants.{Imm}
use Rattle.insn_codec.specs.declared.register.Register.TheVariants.{R0, R1, R2}
use Rattle.insn_codec.specs.declared.size.Size.TheVariants.{Dw}
use Rattle.insn_codec.specs.declared.width.Width.TheVariants.{W64}
use Rattle.loader.specs.Contents.{Image}
use Rattle.value_store.specs.Value.{Value, ValueOrError}
use Rattle.cel_macros.specs.Environment.{Roots}
use Rattle.expression_code.specs.Limits.{word_limit, memo_limit}
use Rattle.expression_code.specs.Contexts.{Context, Evaluates}
use Rattle.expression_code.specs.Engine.{RunContext}
use Rattle.expression_code.specs.FirstUses.{FirstUse}
use Rattle.expression_code.specs.Instructions.{mov_reg}
use Rattle.expression_code.specs.Paths.{FrameUse, nothing_kept}
use Rattle.expression_code.specs.Pieces.{IsCodeAt}
use Rattle.expression_code.specs.Words.{memo_address}

-- the number of slots of the use of a variable
abbrev pub use_slots : ℕ
use_slots = 6

-- Loads the reference of variable i into R0: its memo less 1. If the memo is empty, the routine is called, which
-- fills it.
abbrev pub use_code : ℕ → ℤ → List Insn
use_code i offset =
    LoadWide R1 (memo_address i)
    ∷ Load Dw R0 R1 (pos 0)
    ∷ Alu Add W64 R0 (Imm (negsuc 0))
    ∷ Branch Ne W64 R0 (Imm (negsuc 0)) (pos 1)
    ∷ CallLocal offset
    ∷ []

-- The end of the routine of variable i: stores the reference in R0 plus 1 in its memo. So 0 means that there is no
-- value yet, and differs from the error's reference.
abbrev pub memo_tail : ℕ → List Insn
memo_tail i =
    mov_reg R2 R0
    ∷ Alu Add W64 R2 (Imm (pos 1))
    ∷ LoadWide R1 (memo_address i)
    ∷ Store Dw R1 (pos 0) R2
    ∷ Exit
    ∷ []

-- the run context of these variables
abbrev pub with_variables : Image → Bool → List FirstUse → RunContext
with_variables image deep variables = record { image = image; variables = variables; is_deep = deep }

-- the context of a routine: as at the start of a program, no iteration name is defined; the earlier variables may be
-- used
abbrev pub routine_context : Roots → List (List ℕ × ValueOrError) → List ℕ → Context
routine_context roots variables constants =
    record { environment = record { roots = roots; items = []; variables = variables }; words = nothing_kept; constants = constants }

-- the context of an expression with these items and variables
abbrev pub used_context : Roots → List (List ℕ × Value) → FrameUse → List ℕ → List (List ℕ × ValueOrError) → Context
used_context roots items words constants variables =
    record { environment = record { roots = roots; items = items; variables = variables }; words = words; constants = constants }

-- The code of a variable's value, which may use the earlier variables, can be composed to a routine. A use of the
-- variable gives its value with 5 steps of its own, and at most 9 more than that code takes if it is the first use.
abbrev pub VariableGives : Type 0
VariableGives = (image : Image) (deep : Bool) (before behind : List FirstUse) (constants : List ℕ) (words : FrameUse)
    (roots : Roots) (items : List (List ℕ × Value)) (variables later : List (List ℕ × ValueOrError)) (name : List ℕ)
    (v : ValueOrError) (body : List Insn) (routine p depth base n x : ℕ) (offset : ℤ)
    → length before ≡ length variables → length variables < memo_limit → base ≤ word_limit → depth < record_limit
    → pos (p + 5) +ℤ pos 1 +ℤ offset ≡ pos routine
    → IsCodeAt image.code routine (body ++ memo_tail (length variables))
    → Evaluates (with_variables image deep before) routine body (routine_context roots variables constants) (depth + 1) 0 v n x
    → let first : FirstUse = record { routine = routine; steps = n + 9; charge = x } in
    Evaluates (with_variables image deep (before ++ first ∷ behind)) p (use_code (length variables) offset)
    (used_context roots items words constants (variables ++ (name, v) ∷ later)) depth base v 5 0
