-- The JSON texts of values, by which policies are compiled and evaluated.
use Rattle.std.specs.Prelude.{◌≡◌, ℕ, ◌≤◌, false, List, Option, Some, None}
use Rattle.serde_json.specs.Data as json
use Rattle.serde_json.specs.Read.{max_depth}
use Rattle.serde_json.specs.Written.{compact_text, has_float}
use Rattle.value_store.specs.Documents.{document_of}

-- a text of a value: it is read as the value, if that is not nested deeper than texts that are read, and it is compact, if
-- the value has no number with a fraction
pub record IsJsonTextOf (d : json.Data) (text : List ℕ) : Type 0 where
  pub reads : json.depth d ≤ max_depth → document_of text ≡ Some d
  pub compact : has_float d ≡ false → text ≡ compact_text d

-- a text of a value that may be absent
abbrev pub IsJsonTextIf : Option json.Data → Option (List ℕ) → Type 0
IsJsonTextIf None None = Unit {0}
IsJsonTextIf None (Some text) = ⊥
IsJsonTextIf (Some d) None = ⊥
IsJsonTextIf (Some d) (Some text) = IsJsonTextOf d text
