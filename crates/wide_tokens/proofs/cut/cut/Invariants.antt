-- Loop invariants and measures of `cut` (src/cut.rt).
use Rattle.wide_tokens.proofs.Prelude.{◌-◌, ◌≤◌, List, [], drop, length, true, Result, WideToken, WideCuts, WideTakesMemory, WideEndsAs, ReadError}
use Rattle.wide_tokens.proofs.cut.cut.Given as goal

abbrev pub invariant-loop-next : goal.invariant-loop-next
invariant-loop-next l = record {
  in_range : l.at ≤ length l.bytes;
  goes : (r : Result (List WideToken) ReadError) → WideEndsAs l.bytes l.signed l.at l.out.items r → WideCuts true [] 0 l.bytes r;
  memory : WideTakesMemory l.signed (drop l.at l.bytes) → WideTakesMemory true l.bytes;
}

abbrev pub decreases-loop-next : goal.decreases-loop-next
decreases-loop-next l = length l.bytes - l.at
