-- Proofs of `places::around`: the result meets the contract.
use Rattle.text_functions.proofs.Standing.{first_place_is, parts_are, parts_utf8}
use Rattle.text_functions.proofs.places.around.Goals as goal

pub returns-clause-place : goal.returns-clause-place
returns-clause-place c = first_place_is c.args.part.now c.args.text.now c.split_once.result c.utf8.text c.utf8.part c.split_once.ensures.cases

pub returns-clause-parts : goal.returns-clause-parts
returns-clause-parts c = parts_are c.args.part.now c.args.text.now c.split_once.result c.utf8.text c.utf8.part c.split_once.ensures.cases

pub returns-clause-utf8 : goal.returns-clause-utf8
returns-clause-utf8 c = parts_utf8 c.args.part.now c.args.text.now c.split_once.result c.utf8.text c.utf8.part c.split_once.ensures.cases
