-- Loop invariant of `selectors::labels_in`.

use Rattle.admission_documents.proofs.Prelude.{map, members_view, label_view}
use Rattle.admission_documents.proofs.Lists.{LabelsGo}
use Rattle.admission_documents.proofs.selectors.labels_in.Given as goal

abbrev pub invariant-loop-key : goal.invariant-loop-key
invariant-loop-key l = LabelsGo (members_view l.initial.key-iterator) (members_view l.key-iterator) (map label_view l.labels.items)
