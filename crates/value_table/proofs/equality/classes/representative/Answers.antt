-- Proofs of `equality::classes::representative`: the result meets the contract; each turn of the loop keeps the
-- invariant.

use Rattle.value_table.proofs.Prelude.{◌<◌, List, ℕ, slice_get, sym, ◌∙◌, subst, arith, Shortens}
use Rattle.value_table.proofs.Classes.{ends_at, shortens_more}
use Rattle.value_table.proofs.equality.classes.representative.Goals as goal

pub loop-next-preserved : goal.loop-next-preserved
loop-next-preserved c =
    let inv = c.loop-next.invariant in
    let less : c.loop-next.next < c.loop-next.here = omega arith in
    record {
      not_above = (let low = inv.not_above in omega arith);
      value = λ vs s.
          let so_far = inv.value vs s in
          let further = c.below-further.ensures.value vs so_far.0 in
          let new = c.point.ensures.value vs so_far.0 (further ∙ so_far.1) in
          (new, c.below-next-in-loop-next.ensures.value vs new, so_far.1 ∙ so_far.2);
      shorter = λ down. subst (λ (new : List ℕ). Shortens c.args.same.now new c.args.place) (sym c.point.ensures.word) (shortens_more c.args.same.now c.loop-next.same c.args.place c.loop-next.here c.loop-next.next c.below-further.result (inv.shorter down) inv.not_above inv.next_is less c.below-further.ensures.down);
      next_is = c.below-next-in-loop-next.ensures.down;
    }

pub returns-clause-classes : goal.returns-clause-classes
returns-clause-classes c = grind (arith, slice_get, ends_at)
