-- Proof obligations of `offset` (src/text/numerals.rt).
use Rattle.assembler.proofs.Prelude.{◌∙◌, sym, ap, inr, is_offset}
use Rattle.assembler.proofs.Forms.{offset_said, no_offset}
use Rattle.assembler.proofs.text.numerals.offset.Goals as goal

pub returns-then-is_offset : goal.returns-then-is_offset
returns-then-is_offset c =
    let t = offset_said c.args.text.now (sym (c.is_offset.ensures ∙ ap is_offset c.as_bytes.ensures.value) ∙ c.if-is_offset.true) in
    (t.0, c.number.ensures t.0 (inr t.1), t.1)

pub returns-else-is_offset : goal.returns-else-is_offset
returns-else-is_offset c = no_offset c.args.text.now (sym (c.is_offset.ensures ∙ ap is_offset c.as_bytes.ensures.value) ∙ c.if-is_offset.false)
