-- Loop invariants and measures of `write_all` (src/transfer.rt).
use Rattle.streams.proofs.Prelude.{◌≡◌, ◌-◌, ◌≤◌, take, length, AddsBytes}
use Rattle.streams.proofs.transfer.write_all.Given as goal

abbrev pub invariant-loop-at : goal.invariant-loop-at
invariant-loop-at g l = record {
  within : l.at ≤ length l.bytes;
  written : AddsBytes (g.W.Sink.taken l.fn.w) (g.W.Sink.taken l.w) (take l.at l.bytes);
  same : g.W.Sink.failed l.w ≡ g.W.Sink.failed l.fn.w;
}

abbrev pub decreases-loop-at : goal.decreases-loop-at
decreases-loop-at g l = length l.bytes - l.at
