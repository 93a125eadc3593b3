-- Proof obligations of `place` (src/text/places.rt).
use Rattle.assembler.proofs.Prelude.{◌∷◌, ◌++◌, [], Some, None, lit<, sym, ◌∙◌, arith, strip_prefix_char, strip_suffix_char, address_text, append_cancel_right}
use Rattle.assembler.proofs.Ends.{tails}
use Rattle.assembler.proofs.text.places.place.Goals as goal

pub returns-in_err-after : goal.returns-in_err-after
returns-in_err-after c = rw c.from_residual.ensures (λ r z e. strip_prefix_char 91 c.args.text.now None c.in_err-after.ensures.cases (lit< tt) (address_text r z ++ 93 ∷ []) e)

pub returns-in_err-inside : goal.returns-in_err-inside
returns-in_err-inside c = rw c.from_residual-in_err-inside.ensures (λ r z e.
    let p = strip_prefix_char 91 c.args.text.now (Some c.in_ok-after.after) c.in_ok-after.ensures.cases (lit< tt) in
    strip_suffix_char 93 c.in_ok-after.after.now None c.in_err-inside.ensures.cases (lit< tt) (address_text r z) (tails 91 91 _ _ (sym p ∙ e)))

pub returns : goal.returns
returns c =
    let p = strip_prefix_char 91 c.args.text.now (Some c.in_ok-after.after) c.in_ok-after.ensures.cases (lit< tt) in
    let q = strip_suffix_char 93 c.in_ok-after.after.now (Some c.in_ok-inside.inside) c.in_ok-inside.ensures.cases (lit< tt) in
    (grind (arith, append_cancel_right, tails))
