-- Loop invariants and measures of `hear_input` (src/hearing.rt).
use Rattle.streams.proofs.Prelude.{◌≡◌, ◌≤◌, ◌<◌, ◌-◌, ℕ, List, Some, length, buffered}
use Rattle.streams.specs.Hearing.{HeardSoFar}
use Rattle.streams.proofs.hearing.hear_input.Given as goal

abbrev pub invariant-loop-unread : goal.invariant-loop-unread
invariant-loop-unread g l = record {
  most : l.unread ≤ 9223372036854775808;
  going : (input before : List ℕ) → buffered l.fn.buffer (g.R.Source.left l.fn.r) ≡ Some input → g.W.Sink.taken l.fn.w ≡ Some before
      → HeardSoFar (g.L.Listener.goes l.listener l.fn.listener before) input (9223372036854775808 - l.unread) (buffered l.buffer (g.R.Source.left l.r)) (g.W.Sink.taken l.w);
  read : g.R.Source.failed l.r ≡ g.R.Source.failed l.fn.r;
  wrote : g.W.Sink.failed l.w ≡ g.W.Sink.failed l.fn.w;
  room : length l.fn.buffer < g.row.N → length l.buffer < g.row.N;
}

abbrev pub decreases-loop-unread : goal.decreases-loop-unread
decreases-loop-unread g l = l.unread
