-- Proofs of `searches::last_index_of`: the place fits, and the result meets the contract.
use Rattle.text_functions.proofs.Prelude.{◌∙◌, FitsSigned, IfSome_then, arith, rules, w64}
use Rattle.text_functions.proofs.Taking.{handed_on, last_is}
use Rattle.text_functions.specs.Parts.{last_index_of_of}
use Rattle.text_functions.proofs.searches.last_index_of.Goals as goal

pub place_after-requires : goal.place_after-requires
place_after-requires c = IfSome_then c.last_around-parts.result c.last_around-parts.ensures.within (λ p h. omega (arith, h))

pub returns : goal.returns
unfolding last_index_of_of
returns c =
    let f : FitsSigned w64 c.place_after.result = search rules in
    handed_on c.place_after.result _ f (c.place_after.ensures ∙ last_is c.args.part.now c.args.text.now c.last_around-parts.result c.last_around-parts.ensures.place)
