-- Loop invariant of `object_labels::are_texts`.

use Rattle.admission_documents.proofs.Prelude.{◌≡◌, members_view, are_texts}
use Rattle.admission_documents.proofs.object_labels.are_texts.Given as goal

abbrev pub invariant-loop-key : goal.invariant-loop-key
invariant-loop-key l = are_texts (members_view l.initial._key-iterator) ≡ are_texts (members_view l._key-iterator)
