-- Proof obligations of `literal` (src/lexed.rt).
use Rattle.wide_tokens.proofs.Prelude.{ℕ, sym, ◌∙◌, ap, drop, subst, IsUtf8}
use Rattle.wide_tokens.proofs.Fronts.{opened}
use Rattle.wide_tokens.proofs.lexed.literal.Goals as goal

pub content-requires-clause-text : goal.content-requires-clause-text
content-requires-clause-text c =
    let e = c.tail.ensures ∙ ap (λ (y : ℕ). drop y c.args.bytes.now) c.len-before.ensures in
    subst IsUtf8 (sym e) (opened c.args.bytes.now c.args.opening c.requires.opened c.requires.text)
