-- Proof obligations of `replay_sparing` (src/replay.rt).
use Rattle.history.proofs.Prelude.{◌∙◌, ap, rules, sym, state_after}
use Rattle.history.proofs.Places.{kept_on, kept_spared, step_on}
use Rattle.history.proofs.replay.replay_sparing.Goals as goal

pub returns-in_err-at-clause-kept : goal.returns-in_err-at-clause-kept
returns-in_err-at-clause-kept g c = kept_spared _ _ c.in_err-at.ensures.spared

pub loop-checkpoints-init : goal.loop-checkpoints-init
loop-checkpoints-init g c = record {
  kept = kept_spared _ _ c.in_ok-at.ensures.spared;
  here = c.in_ok-at.ensures.here;
  order = c.in_ok-at.ensures.nearest.at_most;
}

pub keep-left_out-requires : goal.keep-left_out-requires
keep-left_out-requires g c =
    step_on _ _ _ _ _ c.loop-checkpoints.invariant.here c.in_ok-step.ensures.ok.1 c.in_ok-step.ensures.ok.0
    ∙ ap (state_after _) (sym (c.in_ok-step.ensures.spared.origin ∙ c.loop-checkpoints.invariant.kept.origin))

pub loop-checkpoints-preserved : goal.loop-checkpoints-preserved
loop-checkpoints-preserved g c = record {
  kept = kept_on _ _ _ (kept_on _ _ _ c.loop-checkpoints.invariant.kept (kept_spared _ _ c.in_ok-step.ensures.spared)) c.keep-left_out.ensures.kept;
  here = step_on _ _ _ _ _ c.loop-checkpoints.invariant.here c.in_ok-step.ensures.ok.1 c.in_ok-step.ensures.ok.0;
  order = search rules;
}

-- ---- the other goals, which a search would find

pub returns-in_err-step-clause-kept : goal.returns-in_err-step-clause-kept
returns-in_err-step-clause-kept g c = kept_on _ _ _ c.loop-checkpoints.invariant.kept (kept_spared _ _ c.in_err-step.ensures.spared)

pub returns-clause-kept : goal.returns-clause-kept
returns-clause-kept g c = c.loop-checkpoints.invariant.kept

pub returns-clause-here : goal.returns-clause-here
returns-clause-here g c = c.loop-checkpoints.invariant.here

pub returns-clause-order : goal.returns-clause-order
returns-clause-order g c = c.loop-checkpoints.invariant.order
