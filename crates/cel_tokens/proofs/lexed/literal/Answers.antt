-- Proof obligations of `literal` (src/lexed.rt).
use Rattle.cel_tokens.proofs.Prelude.{ℕ, sym, ◌∙◌, ap, drop, subst, IsUtf8}
use Rattle.cel_tokens.proofs.Fronts.{opened}
use Rattle.cel_tokens.proofs.lexed.literal.Goals as goal

pub content-requires-clause-text : goal.content-requires-clause-text
content-requires-clause-text c =
    let q = c.requires.quoted in
    let u = c.requires.text in
    let e = c.tail.ensures ∙ ap (λ (y : ℕ). drop y c.args.bytes.now) c.opening_len-before.ensures in
    subst IsUtf8 (sym e) (opened c.args.bytes.now c.args.raw c.args.quote q u)
