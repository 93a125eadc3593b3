-- JSON documents, as `serde_json` reads them.
use Rattle.std.specs.Prelude.{ℕ, Bool, true, false, List, [], Option, Some, None, if◌then◌else◌}
use Rattle.std.specs.Str.{bytes_eq, is_utf8}
use Rattle.serde_json.specs.Data as json
use Rattle.serde_json.specs.Read.{read}

-- the document of a JSON text (RFC 8259), if the bytes are one
unfoldable pub document_of : List ℕ → Option json.Data
document_of bytes = if is_utf8 bytes then read bytes else None

-- the document of optional bytes: null if none are given
abbrev pub document_given : Option (List ℕ) → Option json.Data
document_given (Some bytes) = document_of bytes
document_given None = Some json.null

-- whether the document is this string
abbrev pub equals_string : Option json.Data → List ℕ → Bool
equals_string (Some (json.string s)) text = bytes_eq s text
equals_string _ text = false

-- whether the document is a string
abbrev pub is_text : Option json.Data → Bool
is_text (Some (json.string s)) = true
is_text _ = false

-- the document's string, empty if it is not a string
abbrev pub text_or_empty : Option json.Data → List ℕ
text_or_empty (Some (json.string s)) = s
text_or_empty _ = []
