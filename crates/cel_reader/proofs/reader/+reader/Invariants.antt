-- Loop invariants and measures of the functions of the cycle `reader` (src/reader.rt).
use Rattle.cel_reader.proofs.Prelude.{◌+◌, ◌*◌, ◌<◌, ◌≤◌, ◌-◌, length, map, view, entry_view, Infix, Member, words, StepReads, ReadOutcome, Row, Tail, Suffix, Listed, Item, Mapped, Entry}
use Rattle.cel_reader.proofs.Ranks.{rank}
use Rattle.cel_reader.proofs.reader.+reader.Given as goal

abbrev pub decreases-enclosed : goal.decreases-enclosed
decreases-enclosed l = 20 * length l.tokens.now + 17

abbrev pub decreases-entries : goal.decreases-entries
decreases-entries l = 20 * length l.tokens.now + 18

abbrev pub decreases-entry : goal.decreases-entry
decreases-entry l = 20 * length l.tokens.now + 17

abbrev pub decreases-items : goal.decreases-items
decreases-items l = 20 * length l.tokens.now + 17

abbrev pub decreases-expression : goal.decreases-expression
decreases-expression l = 20 * length l.tokens.now + 16

abbrev pub decreases-branches : goal.decreases-branches
decreases-branches l = 20 * length l.yes_tokens.now + 16

abbrev pub decreases-infix : goal.decreases-infix
decreases-infix l = 20 * length l.tokens.now + (rank l.level + 1)

abbrev pub decreases-operand : goal.decreases-operand
decreases-operand l = 20 * length l.tokens.now + rank l.level

abbrev pub decreases-unary : goal.decreases-unary
decreases-unary l = 20 * length l.tokens.now + 5

abbrev pub decreases-member : goal.decreases-member
decreases-member l = 20 * length l.tokens.now + 4

abbrev pub decreases-primary : goal.decreases-primary
decreases-primary l = 20 * length l.tokens.now + 3

abbrev pub decreases-maybe_arguments : goal.decreases-maybe_arguments
decreases-maybe_arguments l = 20 * length l.tokens.now

abbrev pub decreases-selection : goal.decreases-selection
decreases-selection l = 20 * length l.tokens.now

abbrev pub invariant-infix-loop-operator : goal.invariant-infix-loop-operator
invariant-infix-loop-operator l = record {
  goes : (o : ReadOutcome) → StepReads (Tail l.level (view l.left)) l.room (words l.text l.rest) o → StepReads (Row (Infix l.level)) l.room (words l.text l.tokens) o;
  shorter : length l.rest < length l.tokens;
}

abbrev pub decreases-infix-loop-operator : goal.decreases-infix-loop-operator
decreases-infix-loop-operator l = length l.rest

abbrev pub invariant-member-loop-behind : goal.invariant-member-loop-behind
invariant-member-loop-behind l = record {
  goes : (o : ReadOutcome) → StepReads (Suffix (view l.tree)) l.room (words l.text l.rest) o → StepReads (Row Member) l.room (words l.text l.tokens) o;
  shorter : length l.rest < length l.tokens;
}

abbrev pub decreases-member-loop-behind : goal.decreases-member-loop-behind
decreases-member-loop-behind l = length l.rest

abbrev pub invariant-items-loop-grown : goal.invariant-items-loop-grown
invariant-items-loop-grown l = record {
  goes : (o : ReadOutcome) → StepReads (Item l.closing (map view l.items.items)) (l.room - 1) (words l.text l.rest) o → StepReads (Listed l.closing) l.room (words l.text l.tokens) o;
  within : length l.rest ≤ length l.tokens;
}

abbrev pub decreases-items-loop-grown : goal.decreases-items-loop-grown
decreases-items-loop-grown l = length l.rest

abbrev pub invariant-entries-loop-grown : goal.invariant-entries-loop-grown
invariant-entries-loop-grown l = record {
  goes : (o : ReadOutcome) → StepReads (Entry (map entry_view l.entries.items)) (l.room - 1) (words l.text l.rest) o → StepReads Mapped l.room (words l.text l.tokens) o;
  within : length l.rest ≤ length l.tokens;
}

abbrev pub decreases-entries-loop-grown : goal.decreases-entries-loop-grown
decreases-entries-loop-grown l = length l.rest
