-- Proofs of `equality::among::is_equal`: the result meets the contract; its calls meet their requirements.

use Rattle.value_table.proofs.Prelude.{slice_get_within}
use Rattle.value_table.proofs.Comparisons.{answer_is, readable}
use Rattle.value_table.proofs.equality.among.is_equal.Goals as goal

pub equal_by_cells-requires-clause-left : goal.equal_by_cells-requires-clause-left
equal_by_cells-requires-clause-left c = readable c.args.backings.now c.args.sought.0 c.args.sought.1.content (c.requires.contents c.args.sought.0 c.args.sought.1 c.requires.sought)

pub equal_by_cells-requires-clause-right : goal.equal_by_cells-requires-clause-right
equal_by_cells-requires-clause-right c = readable c.args.backings.now c.args.place c.at-right.result.content (c.requires.contents c.args.place c.at-right.result c.at-right.ensures.value)

pub equal-requires-clause-left : goal.equal-requires-clause-left
equal-requires-clause-left c = slice_get_within c.args.cells.now c.args.sought.0 c.args.sought.1 c.requires.sought

pub returns-in-Some : goal.returns-in-Some
returns-in-Some c = λ vs k s.
    (s, c.in-Some.ensures vs c.args.cells.now c.args.sought.0 c.args.place c.requires.contents k c.requires.sought c.at-right.ensures.value)

pub returns-in-None : goal.returns-in-None
returns-in-None c = λ vs k s.
    let r = c.equal.ensures vs k.meanings s in
    (r.known, answer_is c.args.backings.now vs c.args.cells.now c.args.sought.0 c.args.place c.equal.result k.meanings (slice_get_within c.args.cells.now c.args.sought.0 c.args.sought.1 c.requires.sought) c.requires.inside r.right)
