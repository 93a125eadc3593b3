-- Loop invariants and measures of `prefixes` (src/look.rt).
use Rattle.cel_reader.proofs.Prelude.{◌≡◌, ℕ, ◌+◌, ◌≤◌, length, List, Word, words, Prefixes}
use Rattle.cel_reader.proofs.look.prefixes.Given as goal

abbrev pub invariant-loop-behind : goal.invariant-loop-behind
invariant-loop-behind l = record {
  counted : l.count + length l.rest ≤ length l.tokens;
  goes : (n m : ℕ) (end : List Word) → m ≡ l.count + n → Prefixes l.operator n (words l.text l.rest) end → Prefixes l.operator m (words l.text l.tokens) end;
}

abbrev pub decreases-loop-behind : goal.decreases-loop-behind
decreases-loop-behind l = length l.rest
