-- Proofs of `equality::by_cells::equal_by_cells`: the result meets the contract.

use Rattle.std.proofs.lemmas.Bool.{eqb-true}
use Rattle.value_table.proofs.Prelude.{arith, length, sym, ◌∙◌}
use Rattle.value_table.proofs.Comparisons.{alone_equal, lengths_apart}
use Rattle.value_table.proofs.equality.by_cells.equal_by_cells.Goals as goal

pub returns-then-left-right : goal.returns-then-left-right
returns-then-left-right c = λ vs cs a b s k h g. lengths_apart c.args.backings.now vs cs a b c.args.left c.args.right k h g (λ e. omega (arith, e, c.if-left-right.true))

pub returns-then-is_empty : goal.returns-then-is_empty
returns-then-is_empty c = λ vs cs a b s k h g.
    let none = eqb-true (length c.parts_of.result.now) 0 (sym c.is_empty.ensures ∙ c.if-is_empty.true) in
    alone_equal c.args.backings.now vs cs a b c.args.left c.args.right c.parts_of.result.now c.alike.result s k h g c.parts_of.ensures none c.alike.ensures
