-- Short notation for the values and environments of the cases worked out by hand.
use Rattle.std.specs.Prelude.{◌≡◌, ℕ, ℤ, pos, List, [], ◌∷◌, true, false, codes}
use Prim.Native.String.{String}
use Rattle.cel_reader.specs.Tree.{Tree}
use Rattle.cel_reader.specs.Written.{name, dot}
use Rattle.value_store.specs.Value.{Value, null, boolean, int, text, list, map, items_of, Entries, no_entries, entry, ValueOrError, error, value}
use Rattle.cel_macros.specs.Environment.{Environment}
use Rattle.cel_macros.specs.Meaning.{meaning}

-- `variables.v`
abbrev pub variable : String → Tree
variable v = dot (name "variables") v

-- the result true
abbrev pub is_true : ValueOrError
is_true = value (boolean true)

-- the result false
abbrev pub is_false : ValueOrError
is_false = value (boolean false)

-- this int as a result
abbrev pub number : ℤ → ValueOrError
number z = value (int z)

-- this text as a result
abbrev pub word : String → ValueOrError
word s = value (text (codes s))

-- the list of these values as a result
abbrev pub list_value : List Value → ValueOrError
list_value vs = value (list (items_of vs))

-- the entries of a map, in byte order of their keys
abbrev pub entries_of : List (List ℕ × Value) → Entries
entries_of [] = no_entries
entries_of (e ∷ es) = entry e.0 e.1 (entries_of es)

-- {"spec":{"on":true,"replicas":5}}
abbrev pub object : Value
object = map (entries_of ((codes "spec", map (entries_of ((codes "on", boolean true) ∷ (codes "replicas", int (pos 5)) ∷ []))) ∷ []))

-- {"limit":3}
abbrev pub params : Value
params = map (entries_of ((codes "limit", int (pos 3)) ∷ []))

-- {"name":"default"}
abbrev pub namespace : Value
namespace = map (entries_of ((codes "name", text (codes "default")) ∷ []))

-- {"uid":"u1"}
abbrev pub request : Value
request = map (entries_of ((codes "uid", text (codes "u1")) ∷ []))

-- oldObject is null; variable `one` is 1 and `wrong` is the error
abbrev pub review : Environment
review = record {
  roots = record { object = object; old_object = null; params = params; namespace_object = namespace; request = request };
  items = [];
  variables = (codes "one", value (int (pos 1))) ∷ (codes "wrong", error) ∷ [];
}

-- the expression has this meaning in that review
abbrev pub Means : Tree → ValueOrError → Type 0
Means e v = meaning e review ≡ v
