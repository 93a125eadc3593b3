-- Loop invariants and measures of `scan` (src/passes/scan.rt).
use Rattle.assembler.proofs.Prelude.{◌≡◌, ◌≤◌, length, map, IsUtf8, get_by_text, HasSlots, lines_of, item_of, slots_of, slot_limit}
use Rattle.assembler.proofs.Scanning.{Begun, GoesOn}
use Rattle.assembler.proofs.passes.scan.scan.Given as goal

abbrev pub invariant-lines : goal.invariant-lines
invariant-lines l = (l.slot ≡ slots_of (map item_of l.lines.items)) × (l.slot ≤ slot_limit) × IsUtf8 l.rest × HasSlots (λ q. get_by_text l.labels q) (map item_of l.lines.items) × GoesOn (map item_of l.lines.items) (lines_of l.rest) (lines_of l.text) × Begun (lines_of l.rest) (lines_of l.text)

abbrev pub decreases-lines : goal.decreases-lines
decreases-lines l = length l.rest
