-- Targets of jumps.
use Rattle.std.specs.Prelude.{◌≡◌, ℤ, List, ℕ}
use Rattle.insn_codec.specs.Lines.{offset_text}
use Rattle.assembler.specs.Items.{IsLabel}
use Rattle.assembler.specs.Parts.{NumeralIs}
use Rattle.assembler.specs.declared.text.targets.Target.{Target, TheVariants.Offset, TheVariants.Name}

-- the text is an offset with this numeral, or this name
abbrev pub TargetIs : Target → List ℕ → Type 0
TargetIs (Offset n) text = (z : ℤ) × NumeralIs n z × (text ≡ offset_text z)
TargetIs (Name name) text = (name.now ≡ text) × IsLabel text
