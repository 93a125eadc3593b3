-- The document in a text, given the result of `serde_json`.
use Rattle.std.proofs.Common.{◌≡◌, ℕ, List, Some, None, arith, sym}
use Rattle.std.proofs.lemmas.Str.{IsUtf8-from_is_utf8, is_utf8-from_IsUtf8}
use Rattle.std.specs.Str.{IsUtf8}
use Rattle.serde_json.specs.Data as json
use Rattle.serde_json.specs.Read.{read}
use Rattle.value_store.specs.Documents.{document_of}

pub document_read : (bytes : List ℕ) (d : json.Data) → IsUtf8 bytes → read bytes ≡ Some d → Some d ≡ document_of bytes
unfolding document_of
document_read bytes d utf8 is = rw (is_utf8-from_IsUtf8 bytes utf8) (sym is)

pub document_refused : (bytes : List ℕ) → (IsUtf8 bytes → read bytes ≡ None) → None ≡ document_of bytes
unfolding document_of
document_refused bytes none = grind (arith, IsUtf8-from_is_utf8)
