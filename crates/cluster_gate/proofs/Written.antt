-- Texts of values.
use Rattle.std.proofs.Common.{◌≡◌, ◌≤◌, ℕ, false, List, Some}
use Rattle.std.proofs.lemmas.Str.{is_utf8-from_IsUtf8}
use Rattle.std.specs.Str.{IsUtf8}
use Rattle.serde_json.specs.Data as json
use Rattle.serde_json.specs.Read.{max_depth, read}
use Rattle.serde_json.specs.Written.{compact_text, has_float}
use Rattle.value_store.specs.Documents.{document_of}
use Rattle.cluster_gate.specs.Texts.{IsJsonTextOf}

-- the written text of a value is a text of it
pub has_text : (d : json.Data) (b : List ℕ) → IsUtf8 b → (has_float d ≡ false → b ≡ compact_text d) → (json.depth d ≤ max_depth → read b ≡ Some d) → IsJsonTextOf d b
unfolding document_of
has_text d b utf8 compact reads = record { reads = λ shallow. rw (is_utf8-from_IsUtf8 b utf8) (reads shallow); compact = compact }
