-- Proof obligations of `immediate` (src/text/numerals.rt).
use Rattle.assembler.proofs.Prelude.{◌∙◌, sym, ap, inl, is_immediate}
use Rattle.assembler.proofs.Forms.{immediate_said, no_immediate}
use Rattle.assembler.proofs.text.numerals.immediate.Goals as goal

pub returns-then-is_immediate : goal.returns-then-is_immediate
returns-then-is_immediate c =
    let t = immediate_said c.args.text.now (sym (c.is_immediate.ensures ∙ ap is_immediate c.as_bytes.ensures.value) ∙ c.if-is_immediate.true) in
    (t.0, c.number.ensures t.0 (inl t.1), t.1)

pub returns-else-is_immediate : goal.returns-else-is_immediate
returns-else-is_immediate c = no_immediate c.args.text.now (sym (c.is_immediate.ensures ∙ ap is_immediate c.as_bytes.ensures.value) ∙ c.if-is_immediate.false)
