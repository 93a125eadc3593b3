-- Proofs of `searches::index_of`: the result meets the contract.
use Rattle.text_functions.proofs.Prelude.{FitsSigned, rules, w64}
use Rattle.text_functions.proofs.Taking.{handed_on}
use Rattle.text_functions.specs.Parts.{index_of_of}
use Rattle.text_functions.proofs.searches.index_of.Goals as goal

pub returns : goal.returns
unfolding index_of_of
returns c =
    let f : FitsSigned w64 c.first_from_place.result = search rules in
    handed_on c.first_from_place.result _ f c.first_from_place.ensures
