-- Proofs of `searches::first_from_place`: the place fits, and the result meets the contract.
use Rattle.text_functions.proofs.Prelude.{◌∙◌, FitsSigned, IfSome_then, arith, rules, w64}
use Rattle.text_functions.proofs.Taking.{first_is, handed_on}
use Rattle.text_functions.proofs.searches.first_from_place.Goals as goal

pub place_after-requires : goal.place_after-requires
place_after-requires c =
    IfSome_then c.around-parts.result c.around-parts.ensures.within (λ p h. omega (arith, h, c.size-passed.ensures.within, c.cut-whole.ensures.lengths))

pub returns : goal.returns
returns c =
    let f : FitsSigned w64 c.place_after.result = search rules in
    handed_on c.place_after.result _ f
    (c.place_after.ensures
    ∙ first_is c.args.from c.args.text.now _ _ c.args.part.now _ c.around-parts.result c.cut-whole.ensures.cut c.size-passed.ensures.count c.around-parts.ensures.place)
