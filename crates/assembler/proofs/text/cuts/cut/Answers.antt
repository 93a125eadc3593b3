-- Proof obligations of `cut` (src/text/cuts.rt).
use Rattle.assembler.proofs.Prelude.{◌∷◌, Some, None, lit<, sym, ◌∙◌, split_after, strip_prefix_char}
use Rattle.assembler.proofs.Ends.{tails}
use Rattle.assembler.proofs.Lacking.{lacks_at}
use Rattle.assembler.proofs.text.cuts.cut.Goals as goal

pub returns-in_err-first-clause-only : goal.returns-in_err-first-clause-only
returns-in_err-first-clause-only c = λ xs ys h e. absurd (split_after 44 c.args.text.now xs (32 ∷ ys) None c.in_err-first.ensures.cases (lit< tt) e (lacks_at 44 xs h))

pub returns-in_err-second-clause-only : goal.returns-in_err-second-clause-only
returns-in_err-second-clause-only c = λ xs ys h e.
    let p = split_after 44 c.args.text.now xs (32 ∷ ys) (Some (c.in_ok-first.first, c.in_ok-first.rest)) c.in_ok-first.ensures.cases (lit< tt) e (lacks_at 44 xs h) in
    absurd (strip_prefix_char 32 c.in_ok-first.rest.now None c.in_err-second.ensures.cases (lit< tt) ys p.1)

pub returns-clause-only : goal.returns-clause-only
returns-clause-only c = λ xs ys h e.
    let p = split_after 44 c.args.text.now xs (32 ∷ ys) (Some (c.in_ok-first.first, c.in_ok-first.rest)) c.in_ok-first.ensures.cases (lit< tt) e (lacks_at 44 xs h) in
    let q = strip_prefix_char 32 c.in_ok-first.rest.now (Some c.in_ok-second.second) c.in_ok-second.ensures.cases (lit< tt) in
    (p.0, tails 32 32 _ _ (sym q ∙ p.1))
