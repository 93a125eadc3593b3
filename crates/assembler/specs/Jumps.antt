-- Jumps whose target may be a label.
use Rattle.std.specs.Prelude.{ℕ, ℤ, pos, negsuc, Bool, true, nat_lt, List, [], ◌∷◌, Option, Some, None, if◌then◌else◌}
use Rattle.insn_codec.specs.Lines.{operand_text, register_text}
use Rattle.insn_codec.specs.Spelling.{IsOperand}
use Rattle.insn_codec.specs.declared.insn.Insn.TheVariants as insn
use Rattle.insn_codec.specs.declared.mnemonic.Mnemonic.{Mnemonic}
use Rattle.insn_codec.specs.declared.mnemonic.Mnemonic.TheVariants as mnemonic
use Rattle.insn_codec.specs.declared.statement.Statement.{Statement, TheVariants.Insn}
use Rattle.assembler.specs.declared.lines.jump.Jump.{Jump, TheVariants.Near, TheVariants.Long, TheVariants.CallLocal, TheVariants.Branch}

-- the mnemonic of a jump
abbrev pub jump_mnemonic : Jump → Mnemonic
jump_mnemonic Near = mnemonic.Ja
jump_mnemonic Long = mnemonic.JaLong
jump_mnemonic CallLocal = mnemonic.CallLocal
jump_mnemonic (Branch comparison width dst operand) = mnemonic.Branch comparison width

-- the operands of a jump; the last is the target, an offset or the name of a label
abbrev pub jump_operands : Jump → List ℕ → List (List ℕ)
jump_operands (Branch comparison width dst operand) target = register_text dst ∷ operand_text operand ∷ target ∷ []
jump_operands _ target = target ∷ []

-- the number among the operands is in range
abbrev pub JumpInRange : Jump → Type 0
JumpInRange (Branch comparison width dst operand) = IsOperand operand
JumpInRange _ = Unit {0}

-- the jump with its offset
abbrev pub jump_by : Jump → ℤ → Statement
jump_by Near offset = Insn (insn.Jump offset)
jump_by Long offset = Insn (insn.JumpLong offset)
jump_by CallLocal offset = Insn (insn.CallLocal offset)
jump_by (Branch comparison width dst operand) offset = Insn (insn.Branch comparison width dst operand offset)

-- a signed number of 16 bits
abbrev pub fits_16 : ℤ → Bool
fits_16 (pos n) = nat_lt n 32768
fits_16 (negsuc n) = nat_lt n 32768

-- whether the offset fits the jump: `ja` and branches have 16 bits signed, `ja32` and `call_local` 32, which hold
-- every offset between two slots of a program (RFC 9669, section 4.3)
abbrev pub reaches : Jump → ℤ → Bool
reaches Long offset = true
reaches CallLocal offset = true
reaches _ offset = fits_16 offset

-- the jump with its offset, if the offset fits
abbrev pub with_offset : Jump → ℤ → Option Statement
with_offset j offset = if reaches j offset then Some (jump_by j offset) else None
