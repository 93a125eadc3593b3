-- Proof obligations of `last_of_stretch` (src/search.rt).
use Rattle.history.proofs.Prelude.{◌∙◌, arith, refl, sym, state_after-zero}
use Rattle.history.proofs.Searches.{last_here_is, last_none, last_stands, last_stands_not, last_stays}
use Rattle.history.proofs.Places.{before_next, next_place, not_running, spared_all, spared_on}
use Rattle.history.proofs.search.last_of_stretch.Goals as goal
use Rattle.history.proofs.search.last_of_stretch.Goals.{then-stands_at, else-stands_at, then-stands_at-2, else-stands_at-2}

pub loop-place-init : goal.loop-place-init
loop-place-init g c = record {
  spared = spared_all _ _ refl;
  at = refl;
  here = sym (state_after-zero _);
  last = last_none _ _;
}

pub returns-then-is_stopped-clause-found : goal.returns-then-is_stopped-clause-found
returns-then-is_stopped-clause-found g c =
    let stopped = not_running _ _ c.is_stopped.ensures c.if-is_stopped.true in
    elim c.if-stands_at.branch [
      | then-stands_at w ↦ w.result-is ∙ last_stands _ _ _ c.loop-place.place _ c.loop-place.invariant.here stopped (omega (arith, c.loop-place-test.true)) (omega (arith, c.loop-place-test.true)) (sym c.stands_at.ensures ∙ w.if-stands_at.true)
      | else-stands_at w ↦ w.result-is ∙ last_stands_not _ _ _ c.loop-place.place _ _ c.loop-place.invariant.here stopped (omega (arith, c.loop-place-test.true)) (sym c.stands_at.ensures ∙ w.if-stands_at.false) c.loop-place.invariant.last
    ]

pub loop-place-preserved : goal.loop-place-preserved
loop-place-preserved g c =
    let here = next_place _ _ _ c.loop-place.place c.loop-place.invariant.here c.loop-place.auto.place c.in_ok-step.ensures.ok.1 in
    record {
      spared = spared_on _ _ _ c.loop-place.invariant.spared c.in_ok-step.ensures.spared;
      at = omega (arith, c.in_ok-step.ensures.ok.0, c.loop-place.invariant.at);
      here = before_next _ _ _ here;
      last =
          elim c.if-stands_at-2.branch [
            | then-stands_at-2 w ↦ w.last-is ∙ last_here_is _ _ _ _ _ here c.stands_at-in-loop-place.ensures w.if-stands_at-2.true
            | else-stands_at-2 w ↦ w.last-is ∙ last_stays _ _ _ _ _ _ here c.stands_at-in-loop-place.ensures w.if-stands_at-2.false c.loop-place.invariant.last
          ];
    }

-- ---- the other goals, which a search would find

pub returns-then-is_stopped-clause-spared : goal.returns-then-is_stopped-clause-spared
returns-then-is_stopped-clause-spared g c = c.loop-place.invariant.spared

pub step-requires : goal.step-requires
step-requires g c = omega (arith, c.loop-place.invariant.at, c.requires.fits, c.loop-place-test.true)

pub returns-in_err-step-clause-spared : goal.returns-in_err-step-clause-spared
returns-in_err-step-clause-spared g c = spared_on _ _ _ c.loop-place.invariant.spared c.in_err-step.ensures.spared

pub returns-clause-spared : goal.returns-clause-spared
returns-clause-spared g c = c.loop-place.invariant.spared
