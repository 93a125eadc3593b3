-- The values of a line's parts.
use Rattle.std.specs.Prelude.{◌≡◌, ℤ, FitsSigned}
use Rattle.std.specs.Int.{w32}
use Rattle.insn_codec.specs.declared.operand.Operand.{Operand, TheVariants.Imm, TheVariants.Reg}
use Rattle.assembler.specs.declared.text.numerals.Numeral.{Numeral, TheVariants.Small, TheVariants.Wide}
use Rattle.assembler.specs.declared.text.operands.Value.{Value, TheVariants.Register, TheVariants.Number}

-- the number of a numeral: one of 32 bits signed, or any number outside
abbrev pub NumeralIs : Numeral → ℤ → Type 0
NumeralIs (Small n) z = z ≡ n
NumeralIs Wide z = FitsSigned w32 z → ⊥

-- the operand that was read: a register, or an immediate
abbrev pub ValueIs : Value → Operand → Type 0
ValueIs (Register r) o = o ≡ Reg r
ValueIs (Number n) o = (z : ℤ) × NumeralIs n z × (o ≡ Imm z)
