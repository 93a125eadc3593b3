-- Proof obligations of `first_after` (src/search.rt).
use Rattle.history.proofs.Prelude.{◌+◌, ◌<◌, ◌∙◌, ap, arith, refl, sym, state_after}
use Rattle.history.proofs.Places.{kept_all, kept_on, kept_spared, must_move, own_place, reaches_is, step_on}
use Rattle.history.proofs.Searches.{found_here, found_next, found_none, none_first, none_further}
use Rattle.history.proofs.search.first_after.Goals as goal

pub returns-then-reaches-clause-found : goal.returns-then-reaches-clause-found
returns-then-reaches-clause-found g c =
    let reached = c.reaches.ensures.0 c.if-reaches.true in
    found_next _ _ _ _ c.requires.order (reaches_is _ _ _ _ c.requires.here reached.1)

pub returns-in_err-at-clause-kept : goal.returns-in_err-at-clause-kept
returns-in_err-at-clause-kept g c = kept_spared _ _ c.in_err-at.ensures.spared

pub loop-place-init : goal.loop-place-init
loop-place-init g c = record {
  kept = kept_spared _ _ c.in_ok-at.ensures.spared;
  here = c.in_ok-at.ensures.here;
  place = ap (λ k. k + 1) (own_place _ _ _ c.in_ok-at.ensures.nearest);
  none = none_first _ _ _ _ (omega arith);
}

pub returns-then-is_stop-clause-found : goal.returns-then-is_stop-clause-found
returns-then-is_stop-clause-found g c =
    let after : c.args.shown.now.place < c.loop-place.place = omega (arith, c.loop-place.auto.place) in
    let here = step_on _ _ _ _ _ c.loop-place.invariant.here c.in_ok-step.ensures.ok.1 (sym c.loop-place.invariant.place) in
    found_here _ _ _ _ _ _ c.loop-place.invariant.none after c.loop-place-test.true here (sym c.is_stop.ensures ∙ c.if-is_stop.true)

pub keep-left_out-requires : goal.keep-left_out-requires
keep-left_out-requires g c =
    step_on _ _ _ _ _ c.loop-place.invariant.here c.in_ok-step.ensures.ok.1 c.in_ok-step.ensures.ok.0
    ∙ ap (state_after _) (sym (c.in_ok-step.ensures.spared.origin ∙ c.loop-place.invariant.kept.origin))

pub loop-place-preserved : goal.loop-place-preserved
loop-place-preserved g c =
    let here = step_on _ _ _ _ _ c.loop-place.invariant.here c.in_ok-step.ensures.ok.1 (sym c.loop-place.invariant.place) in
    record {
      kept = kept_on _ _ _ (kept_on _ _ _ c.loop-place.invariant.kept (kept_spared _ _ c.in_ok-step.ensures.spared)) c.keep-left_out.ensures.kept;
      here = step_on _ _ _ _ _ c.loop-place.invariant.here c.in_ok-step.ensures.ok.1 c.in_ok-step.ensures.ok.0;
      place = omega (arith, c.in_ok-step.ensures.ok.0, c.loop-place.invariant.place);
      none = none_further _ _ _ _ _ _ c.loop-place.invariant.none here c.is_stop.ensures c.if-is_stop.false;
    }

pub returns-clause-found : goal.returns-clause-found
returns-clause-found g c = found_none _ _ _ _ _ c.loop-place.invariant.none c.requires.order c.loop-place-test.false

-- ---- the other clauses, which a search would find

pub returns-then-reaches-clause-kept : goal.returns-then-reaches-clause-kept
returns-then-reaches-clause-kept g c = kept_all _ _ refl

pub returns-then-reaches-clause-no_memory : goal.returns-then-reaches-clause-no_memory
returns-then-reaches-clause-no_memory g c = λ reached. (refl, refl)

pub returns-in_err-at-clause-no_memory : goal.returns-in_err-at-clause-no_memory
returns-in_err-at-clause-no_memory g c = λ reached. absurd (must_move _ _ _ _ _ c.requires.here c.reaches.ensures.1 c.if-reaches.false (omega (arith, c.requires.order)) reached)

pub returns-in_err-step-clause-kept : goal.returns-in_err-step-clause-kept
returns-in_err-step-clause-kept g c = kept_on _ _ _ c.loop-place.invariant.kept (kept_spared _ _ c.in_err-step.ensures.spared)

pub returns-in_err-step-clause-no_memory : goal.returns-in_err-step-clause-no_memory
returns-in_err-step-clause-no_memory g c = λ reached. absurd (must_move _ _ _ _ _ c.requires.here c.reaches.ensures.1 c.if-reaches.false (omega (arith, c.requires.order)) reached)

pub returns-then-is_stop-clause-kept : goal.returns-then-is_stop-clause-kept
returns-then-is_stop-clause-kept g c = kept_on _ _ _ c.loop-place.invariant.kept (kept_spared _ _ c.in_ok-step.ensures.spared)

pub returns-then-is_stop-clause-no_memory : goal.returns-then-is_stop-clause-no_memory
returns-then-is_stop-clause-no_memory g c = λ reached. absurd (must_move _ _ _ _ _ c.requires.here c.reaches.ensures.1 c.if-reaches.false (omega (arith, c.requires.order)) reached)

pub returns-clause-kept : goal.returns-clause-kept
returns-clause-kept g c = c.loop-place.invariant.kept

pub returns-clause-no_memory : goal.returns-clause-no_memory
returns-clause-no_memory g c = λ reached. absurd (must_move _ _ _ _ _ c.requires.here c.reaches.ensures.1 c.if-reaches.false (omega (arith, c.requires.order)) reached)
