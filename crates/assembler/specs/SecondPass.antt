-- The second pass: the bytes of the items, with offsets for the labels.
use Rattle.std.specs.Prelude.{ℕ, suc, ◌+◌, ℤ, pos, ◌-ℤ◌, List, [], ◌∷◌, ◌++◌, Option, Some, None, Result, Ok, Err}
use Rattle.std.specs.Option.{option_map_or}
use Rattle.insn_codec.specs.Statements.{statement_bytes}
use Rattle.insn_codec.specs.declared.statement.Statement.{Statement}
use Rattle.assembler.specs.Items.{SourceItem, statement, label, jump, item_slots}
use Rattle.assembler.specs.Jumps.{with_offset}
use Rattle.assembler.specs.declared.lines.jump.Jump.{Jump}
use Rattle.assembler.specs.declared.asm_error.AsmError.{AsmError, TheVariants.UnknownLabel, TheVariants.JumpTooFar}

-- a jump's offset: the label's slot minus the slot after the jump
abbrev pub offset_to : ℕ → ℕ → ℤ
offset_to slot target = pos target -ℤ pos (suc slot)

-- the jump in this slot, on the line with this number, to the label's slot
abbrev pub jump_at : ℕ → ℕ → Jump → Option ℕ → Result (Option Statement) AsmError
jump_at number slot j None = Err (UnknownLabel number)
jump_at number slot j (Some target) = option_map_or (λ x. Ok (Some x)) (with_offset j (offset_to slot target)) (Err (JumpTooFar number))

-- the statement of the line with this number, which begins at this slot; none for a label
abbrev pub line_statement : (List ℕ → Option ℕ) → ℕ → ℕ → SourceItem → Result (Option Statement) AsmError
line_statement labels number slot (statement x) = Ok (Some x)
line_statement labels number slot (label name) = Ok None
line_statement labels number slot (jump j name) = jump_at number slot j (labels name)

-- the bytes of a statement; none for a label's line
abbrev pub bytes_of : Option Statement → List ℕ
bytes_of None = []
bytes_of (Some x) = statement_bytes x

-- the outcome for the rest, with these bytes prepended
abbrev pub after : List ℕ → Result (List ℕ) AsmError → Result (List ℕ) AsmError
after bytes (Ok more) = Ok (bytes ++ more)
after bytes (Err error) = Err error

-- a line's bytes prepended to those of the rest, or the first error
abbrev pub and_then : Result (Option Statement) AsmError → Result (List ℕ) AsmError → Result (List ℕ) AsmError
and_then (Ok x) rest = after (bytes_of x) rest
and_then (Err error) rest = Err error

-- the bytes of the lines from this one on, or the error of the first line whose label is unknown or too far away
abbrev pub code_bytes : (List ℕ → Option ℕ) → ℕ → ℕ → List SourceItem → Result (List ℕ) AsmError
code_bytes labels number slot [] = Ok []
code_bytes labels number slot (i ∷ is) =
    and_then (line_statement labels number slot i) (code_bytes labels (suc number) (slot + item_slots i) is)
