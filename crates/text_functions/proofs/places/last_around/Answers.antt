-- Proofs of `places::last_around`: the result meets the contract.
use Rattle.text_functions.proofs.Standing.{last_place_is}
use Rattle.text_functions.proofs.places.last_around.Goals as goal

pub returns-clause-place : goal.returns-clause-place
returns-clause-place c = last_place_is c.args.part.now c.args.text.now c.rsplit_once.result c.utf8.text c.utf8.part c.rsplit_once.ensures.cases
