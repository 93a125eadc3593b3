-- Loop invariants and the termination measures of `writing::write`.

use Rattle.value_table.proofs.Prelude.{◌≡◌, ◌++◌, List, drop, Value, head, texts_of, values_at, AreMeanings, opening, row_tokens}
use Rattle.value_table.proofs.writing.+write.Given as goal

abbrev pub decreases-write : goal.decreases-write
decreases-write l = l.place

abbrev pub invariant-loop-i : goal.invariant-loop-i
invariant-loop-i l = record {
  before : l.writer.before ≡ l.fn.writer.before;
  tokens : (vs : List Value) → AreMeanings l.backings vs l.cells
      → l.writer.tokens ++ row_tokens (texts_of l.backings.bytes (drop l.i l.names)) (values_at vs (drop l.i l.parts))
      ≡ l.fn.writer.tokens ++ (opening (head l.backings l.content) ++ row_tokens (texts_of l.backings.bytes l.names) (values_at vs l.parts));
}
