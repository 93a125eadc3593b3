-- Entries of `matchLabels` that are read one by one.
use Rattle.std.proofs.Common.{◌∷◌, []}
use Rattle.admission_documents.proofs.Prelude.{◌≡◌, ◌∙◌, ◌++◌, ℕ, List, Some, Label, ap, each_label}
use Rattle.json_fields.proofs.Items.{all_before, one_more}
use Rattle.json_fields.specs.Fields.{cons_if}
use Rattle.serde_json.specs.Data as json
use Rattle.admission_documents.specs.Selectors.{label_in}

-- the labels of the members before `rest` are `done`
pub record LabelsGo (all rest : json.Members) (done : List Label) : Type 0 where
  pub left : each_label all ≡ all_before done (each_label rest)

-- one more label is read
pub labels_next : (all it rest : json.Members) (key : List ℕ) (d : json.Data) (done new : List Label) (l : Label) → LabelsGo all it done
    → it ≡ json.member key d rest → label_in key d ≡ Some l → new ≡ done ++ l ∷ [] → LabelsGo all rest new
labels_next all it rest key d done new l go is read added = record {
  left = go.left ∙ one_more done new l (each_label it) (each_label rest) (ap each_label is ∙ ap (λ o. cons_if o (each_label rest)) read) added;
}
