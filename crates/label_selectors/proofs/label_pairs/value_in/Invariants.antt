-- Loop invariant of `label_pairs::value_in`.

use Rattle.label_selectors.proofs.Prelude.{◌≡◌, drop, labels_of, pairs_view}
use Rattle.label_selectors.proofs.label_pairs.value_in.Given as goal

abbrev pub invariant-loop-pair : goal.invariant-loop-pair
invariant-loop-pair l = labels_of (pairs_view l.pairs) l.key ≡ labels_of (pairs_view (drop l.pair-index l.pairs)) l.key
