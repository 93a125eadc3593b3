-- Proofs of `heap::Heap::complete_words`: each turn of the loop keeps the invariant.

use Rattle.value_table.proofs.Prelude.{length-append, arith}
use Rattle.value_table.proofs.Growth.{count_values}
use Rattle.value_table.proofs.Classes.{words_before}
use Rattle.value_table.proofs.Comparisons.{word_added}
use Rattle.value_table.proofs.heap.Heap.complete_words.Goals as goal

pub loop-place-preserved : goal.loop-place-preserved
loop-place-preserved c = grind (arith, count_values, length-append, word_added, words_before)
