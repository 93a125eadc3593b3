-- Loop invariants and measures of `last_before` (src/search.rt).
use Rattle.history.proofs.Prelude.{◌≡◌, ◌≤◌, IsSpared}
use Rattle.history.proofs.Searches.{NoneFrom}
use Rattle.history.proofs.search.last_before.Given as goal

abbrev pub invariant-loop-end : goal.invariant-loop-end
invariant-loop-end g l = record {
  spared : IsSpared l.fn.checkpoints l.checkpoints;
  same : l.fn.shown.place ≡ 0 → l.checkpoints ≡ l.fn.checkpoints;
  order : l.end ≤ l.fn.shown.place;
  none : NoneFrom l.stops l.fn.checkpoints.origin l.end l.fn.shown.place;
}

abbrev pub decreases-loop-end : goal.decreases-loop-end
decreases-loop-end g l = l.end
