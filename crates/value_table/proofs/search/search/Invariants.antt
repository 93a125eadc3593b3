-- Loop invariants and the termination measures of `search::search`.

use Rattle.value_table.proofs.Prelude.{◌≡◌, ℕ, ◌≤◌, ◌<◌, ◌-◌, List, length, slice_index_or, Less, Greater, nat_cmp, slice_cmp, texts_of}
use Rattle.value_table.proofs.search.search.Given as goal

abbrev pub invariant-loop-from : goal.invariant-loop-from
invariant-loop-from l = record {
  order : l.from ≤ l.to;
  inside : l.to ≤ length l.keys;
  before : (j : ℕ) (d : List ℕ) → j < l.from → slice_cmp nat_cmp l.key (slice_index_or (texts_of l.bytes l.keys) j d) ≡ Greater;
  behind : (j : ℕ) (d : List ℕ) → l.to ≤ j → j < length l.keys → slice_cmp nat_cmp l.key (slice_index_or (texts_of l.bytes l.keys) j d) ≡ Less;
}

abbrev pub decreases-loop-from : goal.decreases-loop-from
decreases-loop-from l = l.to - l.from
