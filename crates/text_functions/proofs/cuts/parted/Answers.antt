-- Proofs of `cuts::parted`: the place is within the text and between code points, and the result meets the contract.
use Rattle.text_functions.proofs.Prelude.{◌∙◌, sym, ap₂, ◌++◌, arith, take-append-drop}
use Rattle.text_functions.proofs.Cutting.{dropped, seam, shorter}
use Rattle.text_functions.proofs.cuts.parted.Goals as goal

pub overflow_sub-at : goal.overflow_sub-at
overflow_sub-at c = omega (arith, shorter c.requires.0 c.args.rest.now c.args.text.now c.requires.1)

pub split_at-requires : goal.split_at-requires
split_at-requires c =
    seam c.args.text.now c.requires.0 c.args.rest.now _ c.utf8.rest c.requires.1
    (omega (arith, shorter c.requires.0 c.args.rest.now c.args.text.now c.requires.1))

pub returns-clause-whole : goal.returns-clause-whole
returns-clause-whole c =
    sym (ap₂ (λ a b. a ++ b) c.split_at.ensures.front c.split_at.ensures.back ∙ take-append-drop _ c.args.text.now)

pub returns-clause-back : goal.returns-clause-back
returns-clause-back c =
    c.split_at.ensures.back
    ∙ dropped c.args.text.now c.requires.0 c.args.rest.now _ c.requires.1 (omega (arith, shorter c.requires.0 c.args.rest.now c.args.text.now c.requires.1))
