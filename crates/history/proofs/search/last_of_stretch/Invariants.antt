-- Loop invariants of `last_of_stretch` (src/search.rt).
use Rattle.history.proofs.Prelude.{◌≡◌, ◌-◌, ◌+◌, state_after, last_stop, IsSpared}
use Rattle.history.proofs.search.last_of_stretch.Given as goal

abbrev pub invariant-loop-place : goal.invariant-loop-place
invariant-loop-place g l = record {
  spared : IsSpared l.fn.checkpoints l.checkpoints;
  at : l.at.place + 1 ≡ l.fn.first.place + l.place;
  here : g.E.Emulator.state l.at.machine ≡ state_after (l.place - 1) (g.E.Emulator.state l.fn.first.machine);
  last : l.last ≡ last_stop l.stops (g.E.Emulator.state l.fn.first.machine) l.place;
}
