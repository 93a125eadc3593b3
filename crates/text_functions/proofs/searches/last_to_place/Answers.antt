-- Proofs of `searches::last_to_place`: the place fits, and the result meets the contract.
use Rattle.text_functions.proofs.Prelude.{◌∙◌, FitsSigned, IfSome_then, arith, refl, rules, w64}
use Rattle.text_functions.proofs.Taking.{handed_on, last_by}
use Rattle.text_functions.proofs.searches.last_to_place.Goals as goal

pub place_after-requires : goal.place_after-requires
place_after-requires c = IfSome_then c.last_around-parts.result c.last_around-parts.ensures.within (λ p h. omega (arith, h, c.cut-whole.ensures.lengths))

pub returns : goal.returns
returns c =
    let f : FitsSigned w64 c.place_after.result = search rules in
    handed_on c.place_after.result _ f
    (c.place_after.ensures
    ∙ last_by c.args.to c.size-count.result _ c.args.text.now _ _ c.args.part.now c.last_around-parts.result c.cut-whole.ensures.cut refl c.size-count.ensures.count
    c.last_around-parts.ensures.place)
