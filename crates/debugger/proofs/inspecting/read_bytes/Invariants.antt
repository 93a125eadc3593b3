-- Loop invariants of `read_bytes` (src/inspecting.rt).
use Rattle.debugger.proofs.Prelude.{◌≡◌, length}
use Rattle.debugger.proofs.Shown.{ReadsLow}
use Rattle.debugger.proofs.inspecting.read_bytes.Given as goal

abbrev pub invariant-loop-i : goal.invariant-loop-i
invariant-loop-i g l = record {
  reads : ReadsLow (g.M.Regions.bytes l.memory) l.address l.i l.bytes.items;
  many : length l.bytes.items ≡ l.i;
}
