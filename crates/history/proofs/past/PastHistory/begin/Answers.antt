-- Proof obligations of `PastHistory::begin` (src/past.rt).
use Rattle.history.proofs.Prelude.{◌∙◌, sym, state_after-zero}
use Rattle.history.proofs.past.PastHistory.begin.Goals as goal

pub invariant_of-result : goal.invariant_of-result
invariant_of-result g c = sym c.in_ok-start.ensures ∙ sym c.in_ok-checkpoints.ensures.origin ∙ sym (state_after-zero _)
