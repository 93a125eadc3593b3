-- Documents of the state that are read beside a review.
use Rattle.std.specs.Prelude.{◌≡◌, ℕ, List, [], ◌∷◌, Option, Some, None}
use Rattle.serde_json.specs.Data as json
use Rattle.serde_json.specs.View.{view}
use Rattle.value_store.specs.Documents.{document_of}
use Rattle.value_store.specs.Value as kind
use Rattle.review_tables.specs.DocumentPool.{IsPooled}
use Rattle.review_tables.specs.declared.pooled_document.PooledDocument.{PooledDocument}
use Rattle.cluster_gate.specs.Texts.{IsJsonTextOf}
use Rattle.cluster_gate.specs.declared.read_document.ReadDocument.{ReadDocument}

-- a text of this document was read, and its value is here among these
pub record IsReadHere (vs : List kind.Value) (d : json.Data) (p : PooledDocument) : Type 0 where
  pub text : List ℕ
  pub of : IsJsonTextOf d text
  pub document : json.Data
  pub is : document_of text ≡ Some document
  pub pooled : IsPooled vs p document

-- each of these documents was read
abbrev pub AreReadHere : List kind.Value → List ReadDocument → Type 0
AreReadHere vs [] = Unit {0}
AreReadHere vs (d ∷ ds) = IsReadHere vs (view d.document.now) d.pooled × AreReadHere vs ds

-- a document that may be absent was read
abbrev pub IsReadIf : List kind.Value → Option json.Data → Option PooledDocument → Type 0
IsReadIf vs None None = Unit {0}
IsReadIf vs None (Some p) = ⊥
IsReadIf vs (Some d) None = ⊥
IsReadIf vs (Some d) (Some p) = IsReadHere vs d p
