-- Proof obligations of `cut_before` (src/text/cuts.rt).
use Rattle.assembler.proofs.Prelude.{Some, None, ◌∙◌, ap, ◌∷◌, find_char, finds_char_after, drop_at_char}
use Rattle.assembler.proofs.Lacking.{lacks_at, lacks_from, lacks_gone}
use Rattle.assembler.proofs.text.cuts.cut_before.Goals as goal

pub returns-in_err-position-clause-only : goal.returns-in_err-position-clause-only
returns-in_err-position-clause-only c = λ xs ys h e. absurd (lacks_gone c.args.sign c.args.text.now xs ys (lacks_from c.args.sign c.args.text.now (find_char c.args.sign c.args.text.now None c.in_err-position.ensures.cases c.requires)) e)

pub returns-clause-only : goal.returns-clause-only
returns-clause-only c = λ xs ys h e.
    let f = c.in_ok-position.ensures.cases in
    let p = finds_char_after c.args.sign c.args.text.now xs ys (Some (c.in_ok-position.position, f.0)) f.1 c.requires e (lacks_at c.args.sign xs h) in
    let q = drop_at_char c.args.sign c.args.text.now c.in_ok-position.position f.0 f.1.1 c.requires in
    (c.split_at.ensures.front ∙ p.0, c.split_at.ensures.back ∙ q ∙ ap (λ zs. c.args.sign ∷ zs) p.1)

pub returns-clause-none : goal.returns-clause-none
returns-clause-none c = λ h.
    let f = find_char c.args.sign c.args.text.now (Some c.in_ok-position.position) c.in_ok-position.ensures.cases c.requires in
    absurd (lacks_at c.args.sign c.args.text.now h c.in_ok-position.position f.0 f.1)
