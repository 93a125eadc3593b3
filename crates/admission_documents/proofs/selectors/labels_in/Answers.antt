-- Proofs of `selectors::labels_in`: each turn of the loop keeps the invariant.

use Rattle.std.proofs.Common.{[], ◌∷◌}
use Rattle.std.proofs.lemmas.List.{map-append}
use Rattle.serde_json.specs.View.{view}
use Rattle.admission_documents.proofs.Prelude.{◌∙◌, ap, label_view, map, members_view, string_bytes}
use Rattle.admission_documents.proofs.Lists.{labels_next}
use Rattle.admission_documents.proofs.selectors.labels_in.Goals as goal

pub loop-key-preserved : goal.loop-key-preserved
loop-key-preserved c =
    labels_next _ (members_view c.loop-key.key-iterator) (members_view c.next.new.self) (string_bytes c.in-Some.key.now) (view c.in-Some.value.now) _ _ _
    c.loop-key.invariant (ap members_view c.in-Some.ensures.steps) c.in_ok-label.ensures
    (ap (map label_view) c.in_ok-push.ensures.items ∙ map-append label_view c.loop-key.labels.items (_ ∷ []))
