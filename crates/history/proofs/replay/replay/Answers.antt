-- Proof obligations of `replay` (src/replay.rt).
use Rattle.history.proofs.Prelude.{◌∙◌, arith, sym, ap, state_after}
use Rattle.history.proofs.Places.{kept_on, places_on}
use Rattle.history.proofs.replay.replay.Goals as goal

pub keep-left_out-requires : goal.keep-left_out-requires
keep-left_out-requires g c = places_on _ _ _ _ _ _ c.loop-place.invariant.here c.in_ok-run.ensures.1 c.in_ok-run.ensures.0 ∙ ap (state_after _) (sym c.loop-place.invariant.kept.origin)

pub loop-place-preserved : goal.loop-place-preserved
loop-place-preserved g c = record {
  kept = kept_on _ _ _ c.loop-place.invariant.kept c.keep-left_out.ensures.kept;
  here = places_on _ _ _ _ _ _ c.loop-place.invariant.here c.in_ok-run.ensures.1 c.in_ok-run.ensures.0;
  order = (omega (arith, c.loop-place.invariant.order.0, c.in_ok-run.ensures.0), omega (arith, c.loop-place.invariant.order.1, c.in_ok-run.ensures.0, c.min-steps.ensures));
}
