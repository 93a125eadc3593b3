-- The text at some keys of a document, found by reading its tokens once.
use Rattle.std.specs.Prelude.{◌≡◌, ℕ, Bool, List, [], ◌∷◌, Option, Some, None, option_and_then, if◌then◌else◌}
use Rattle.json.specs.Token.{Token}
use Rattle.serde_json.specs.Data as json
use Rattle.serde_json.specs.Find.{get, get_member}

-- the text of a JSON value, if it is one
abbrev pub text_in : json.Data → Option (List ℕ)
text_in (json.string s) = Some s
text_in _ = None

-- the text at a key of the object at a key; nothing else in the document matters
abbrev pub text_at : List ℕ → List ℕ → Option json.Data → Option (List ℕ)
text_at outer inner document = option_and_then text_in (option_and_then (get inner) (option_and_then (get outer) document))

-- ---- parts

-- the text at these keys, each of the object at the key before it
abbrev pub text_by : List (List ℕ) → json.Data → Option (List ℕ)
text_by [] d = text_in d
text_by (key ∷ keys) d = option_and_then (text_by keys) (get key d)

-- a document was read with the remaining tokens, and this is the text in it
pub record FindsText (keys : List (List ℕ)) (found : Option (List ℕ)) (read : Option (json.Data × List Token))
    (rest : List Token) : Type 0 where
  pub document : json.Data
  pub is : read ≡ Some (document, rest)
  pub text : found ≡ text_by keys document

-- one more member was read; the text in it counts if it has the key
pub record FindsNext (has_key : Bool) (keys : List (List ℕ)) (before after : Option (List ℕ))
    (read : Option (json.Data × List Token)) (rest : List Token) : Type 0 where
  pub document : json.Data
  pub is : read ≡ Some (document, rest)
  pub text : after ≡ (if has_key then text_by keys document else before)

-- the members of an object were read, and this is the text in the one with the key
pub record FindsAmong (key : List ℕ) (keys : List (List ℕ)) (found : Option (List ℕ))
    (read : Option (json.Members × List Token)) (rest : List Token) : Type 0 where
  pub members : json.Members
  pub is : read ≡ Some (members, rest)
  pub text : found ≡ option_and_then (text_by keys) (get_member key members)
