-- Loop invariants of `emit` (src/passes/emit.rt).
use Rattle.assembler.proofs.Prelude.{◌≡◌, ◌+◌, ◌≤◌, map, drop, get_by_text, item_of, slots_of, after, code_bytes, slot_limit}
use Rattle.assembler.proofs.passes.emit.emit.Given as goal

abbrev pub invariant-loop-line : goal.invariant-loop-line
invariant-loop-line l = (l.number ≡ l.line-index + 1) × (l.slot + slots_of (map item_of (drop l.line-index l.lines)) ≤ slot_limit) × (after l.out.items (code_bytes (λ q. get_by_text l.labels q) l.number l.slot (map item_of (drop l.line-index l.lines))) ≡ code_bytes (λ q. get_by_text l.labels q) 1 0 (map item_of l.lines))
