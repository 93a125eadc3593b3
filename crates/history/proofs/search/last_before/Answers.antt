-- Proof obligations of `last_before` (src/search.rt).
use Rattle.history.proofs.Prelude.{◌-◌, ◌<◌, ◌∙◌, ap, inl, inr, arith, refl, sym, state_after}
use Rattle.history.proofs.Places.{spared_all, spared_on}
use Rattle.history.proofs.Searches.{found_empty, found_first, found_in_stretch, last_low, none_in_stretch, not_empty}
use Rattle.history.proofs.search.last_before.Goals as goal
use Rattle.history.proofs.search.last_before.Goals.{then-last-gt0-via-then-last-gt0, then-last-gt0-via-else-last-gt0+then-is_there}

pub returns-then-is_empty-clause-found : goal.returns-then-is_empty-clause-found
returns-then-is_empty-clause-found g c = found_empty _ _ _ (sym c.is_empty.ensures ∙ c.if-is_empty.true)

pub overflow_add-result : goal.overflow_add-result
overflow_add-result g c =
    let before : c.in_ok-from.from.place < c.loop-end.end = omega (arith, c.in_ok-from.ensures.nearest.at_most, c.loop-end-test.true) in
    let low : c.in_ok-last.last < c.loop-end.end - c.in_ok-from.from.place = last_low c.args.stops.now (g.E.Emulator.state c.in_ok-from.from.machine) (c.loop-end.end - c.in_ok-from.from.place) c.in_ok-last.last (omega (arith, before)) c.in_ok-last.ensures.found in
    omega (arith, before, low, c.loop-end.auto.end-fits)

pub returns-then-last-gt0-clause-found : goal.returns-then-last-gt0-clause-found
returns-then-last-gt0-clause-found g c =
    let before : c.in_ok-from.from.place < c.loop-end.end = omega (arith, c.in_ok-from.ensures.nearest.at_most, c.loop-end-test.true) in
    found_in_stretch _ _ _ _ _ _ _
    (record { is = c.in_ok-from.ensures.here ∙ ap (state_after _) c.loop-end.invariant.spared.origin; some = before; within = c.loop-end.invariant.order })
    c.loop-end.invariant.none c.in_ok-last.ensures.found
    (elim c.then-last-gt0.branch [
      | then-last-gt0-via-then-last-gt0 w ↦ inl w.if-last-gt0.true
      | then-last-gt0-via-else-last-gt0+then-is_there w ↦ inr (sym c.stands_at-is_there.ensures ∙ w.if-is_there.true)
    ])

pub loop-end-preserved : goal.loop-end-preserved
loop-end-preserved g c = record {
  spared = spared_on _ _ _ (spared_on _ _ _ c.loop-end.invariant.spared c.in_ok-from.ensures.spared) c.in_ok-last.ensures.spared;
  same = λ start. absurd (omega (arith, start, c.loop-end-test.true, c.loop-end.invariant.order));
  order = omega (arith, c.in_ok-from.ensures.nearest.at_most, c.loop-end.invariant.order);
  none = none_in_stretch _ _ _ _ _ _ (c.in_ok-from.ensures.here ∙ ap (state_after _) c.loop-end.invariant.spared.origin) c.loop-end.invariant.none (omega (arith, c.if-last-gt0.false, c.in_ok-last.ensures.found)) (sym c.stands_at-is_there.ensures ∙ c.if-is_there.false);
}

pub returns-clause-found : goal.returns-clause-found
returns-clause-found g c = found_first _ _ _ _ c.loop-end.invariant.none (omega (arith, c.loop-end-test.false))

-- ---- the other clauses, which a search would find

pub returns-then-is_empty-clause-spared : goal.returns-then-is_empty-clause-spared
returns-then-is_empty-clause-spared g c = spared_all _ _ refl

pub returns-then-is_empty-clause-no_memory : goal.returns-then-is_empty-clause-no_memory
returns-then-is_empty-clause-no_memory g c = λ start. (refl, refl)

pub returns-then-is_empty-clause-no_stops : goal.returns-then-is_empty-clause-no_stops
returns-then-is_empty-clause-no_stops g c = λ none. (refl, refl)

pub returns-in_err-from-clause-spared : goal.returns-in_err-from-clause-spared
returns-in_err-from-clause-spared g c = spared_on _ _ _ c.loop-end.invariant.spared c.in_err-from.ensures.spared

pub returns-in_err-from-clause-no_memory : goal.returns-in_err-from-clause-no_memory
returns-in_err-from-clause-no_memory g c = λ start. absurd (omega (arith, start, c.loop-end-test.true, c.loop-end.invariant.order))

pub returns-in_err-from-clause-no_stops : goal.returns-in_err-from-clause-no_stops
returns-in_err-from-clause-no_stops g c = λ none. absurd (not_empty _ _ c.is_empty.ensures c.if-is_empty.false none)

pub returns-in_err-last-clause-spared : goal.returns-in_err-last-clause-spared
returns-in_err-last-clause-spared g c = spared_on _ _ _ (spared_on _ _ _ c.loop-end.invariant.spared c.in_ok-from.ensures.spared) c.in_err-last.ensures.spared

pub returns-in_err-last-clause-no_memory : goal.returns-in_err-last-clause-no_memory
returns-in_err-last-clause-no_memory g c = λ start. absurd (omega (arith, start, c.loop-end-test.true, c.loop-end.invariant.order))

pub returns-in_err-last-clause-no_stops : goal.returns-in_err-last-clause-no_stops
returns-in_err-last-clause-no_stops g c = λ none. absurd (not_empty _ _ c.is_empty.ensures c.if-is_empty.false none)

pub returns-then-last-gt0-clause-spared : goal.returns-then-last-gt0-clause-spared
returns-then-last-gt0-clause-spared g c = spared_on _ _ _ (spared_on _ _ _ c.loop-end.invariant.spared c.in_ok-from.ensures.spared) c.in_ok-last.ensures.spared

pub returns-then-last-gt0-clause-no_memory : goal.returns-then-last-gt0-clause-no_memory
returns-then-last-gt0-clause-no_memory g c = λ start. absurd (omega (arith, start, c.loop-end-test.true, c.loop-end.invariant.order))

pub returns-then-last-gt0-clause-no_stops : goal.returns-then-last-gt0-clause-no_stops
returns-then-last-gt0-clause-no_stops g c = λ none. absurd (not_empty _ _ c.is_empty.ensures c.if-is_empty.false none)

pub returns-clause-spared : goal.returns-clause-spared
returns-clause-spared g c = c.loop-end.invariant.spared

pub returns-clause-no_memory : goal.returns-clause-no_memory
returns-clause-no_memory g c = λ start. (refl, c.loop-end.invariant.same start)

pub returns-clause-no_stops : goal.returns-clause-no_stops
returns-clause-no_stops g c = λ none. absurd (not_empty _ _ c.is_empty.ensures c.if-is_empty.false none)
