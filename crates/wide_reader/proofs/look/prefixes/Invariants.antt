-- Loop invariants and measures of `prefixes` (src/look.rt).
use Rattle.wide_reader.proofs.Prelude.{◌≤◌, length, Bool, true, List, WideWord, words, WidePrefixes}
use Rattle.wide_reader.proofs.look.prefixes.Given as goal

abbrev pub invariant-loop-behind : goal.invariant-loop-behind
invariant-loop-behind l = record {
  counted : length l.rest ≤ length l.tokens;
  goes : (last : Bool) (end : List WideWord) → WidePrefixes l.operator l.odd last (words l.text l.rest) end → WidePrefixes l.operator true last (words l.text l.tokens) end;
}

abbrev pub decreases-loop-behind : goal.decreases-loop-behind
decreases-loop-behind l = length l.rest
