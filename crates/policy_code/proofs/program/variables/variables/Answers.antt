-- Proofs of `program::variables::variables`: each turn of the loop keeps the invariant; its calls meet their
-- requirements.

use Rattle.policy_code.proofs.Prelude.{◌∷◌, [], ◌++◌, ap, sym, ◌∙◌, arith, core_view, declaration}
use Rattle.policy_code.proofs.Emission.{at_index, at_place, take_more}
use Rattle.policy_code.proofs.program.variables.variables.Goals as goal

pub put_variable-requires-clause-fits : goal.put_variable-requires-clause-fits
put_variable-requires-clause-fits c =
    let core = c.index-cores-place.result in
    (c.requires.fit c.loop-place.place (core_view core) (at_index core_view c.args.cores.now c.loop-place.place core c.loop-place-test.true c.index-cores-place.is)).0

pub put_variable-requires-clause-shallow : goal.put_variable-requires-clause-shallow
put_variable-requires-clause-shallow c = grind (arith, at_index)

pub loop-place-preserved : goal.loop-place-preserved
loop-place-preserved c =
    let go = c.loop-place.invariant in
    let here = at_place core_view c.args.cores.now c.loop-place.place c.index-cores-place.result c.loop-place-test.true c.index-cores-place.is in
    let variable = c.index-declared-place.result in
    let below = c.loop-place-test.true in
    let as_many = c.requires.declared in
    record {
      so_far = rw (c.in_ok-put_variable.ensures, go.scope) (rw here at go.so_far);
      scope = (rw c.as_str.ensures.value at c.in_ok-add.ensures.ok) ∙ ap (λ ds. ds ++ declaration variable ∷ []) go.scope
          ∙ sym (take_more declaration c.args.declared.now c.loop-place.place variable (omega (arith, below, as_many)) c.index-declared-place.is);
    }
