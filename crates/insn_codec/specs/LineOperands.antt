-- The text of the operands that the code collects for a line.
use Rattle.std.specs.Prelude.{ℕ, List, [], ◌∷◌}
use Rattle.insn_codec.specs.Lines.{offset_text, operand_text, place_text, wide_text}
use Rattle.insn_codec.specs.declared.line_operand.LineOperand.{LineOperand}
use Rattle.insn_codec.specs.declared.line_operand.LineOperand.TheVariants as operand
use Rattle.insn_codec.specs.declared.line_operands.LineOperands.{LineOperands, TheVariants.Zero, TheVariants.One, TheVariants.Two, TheVariants.Three}

-- an operand as a line shows it
abbrev pub operand_shown : LineOperand → List ℕ
operand_shown (operand.Operand o) = operand_text o
operand_shown (operand.Offset offset) = offset_text offset
operand_shown (operand.Place base offset) = place_text base offset
operand_shown (operand.Wide value) = wide_text value

-- the operands in the order of the line
abbrev pub operand_texts : LineOperands → List (List ℕ)
operand_texts Zero = []
operand_texts (One a) = operand_shown a ∷ []
operand_texts (Two a b) = operand_shown a ∷ operand_shown b ∷ []
operand_texts (Three a b c) = operand_shown a ∷ operand_shown b ∷ operand_shown c ∷ []
