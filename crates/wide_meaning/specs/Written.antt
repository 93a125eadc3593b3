-- Short notation for wide expressions, and the environment of the cases worked out by hand.
use Rattle.std.specs.Prelude.{◌≡◌, ℕ, ℤ, pos, neg_ℤ, List, [], ◌∷◌, true, false, codes}
use Prim.Native.String.{String}
use Rattle.cel_reader.specs.Tree as tree
use Rattle.cel_reader.specs.declared.operator.BinaryOperator.TheVariants.{Divide}
use Rattle.value_store.specs.Value.{Value, null, boolean, int, text, list, map, items_of}
use Rattle.cel_macros.specs.Written.{entries_of}
use Rattle.wide_reader.specs.Tree as wide
use Rattle.wide_reader.specs.Tree.{Wide, wides, WideItems, no_items, more_items, WideEntries, no_entries, more_entries}
use Rattle.wide_reader.specs.declared.wide.Access.{TheVariants.Plain, TheVariants.Optional}
use Rattle.wide_meaning.specs.Outcome.{Outcome, failed, plain, absent}
use Rattle.wide_meaning.specs.Environment.{WideEnvironment}
use Rattle.wide_meaning.specs.Meaning.{wide_meaning}

-- ---- expressions

-- an int literal, and one with a sign
abbrev pub num : ℕ → Wide
num n = wide.literal (tree.int (pos n))

abbrev pub neg : ℕ → Wide
neg n = wide.literal (tree.int (neg_ℤ (pos n)))

-- a text literal
abbrev pub str : String → Wide
str s = wide.literal (tree.text (codes s))

-- the literals true, false and null
abbrev pub yes : Wide
yes = wide.literal (tree.truth true)

abbrev pub no : Wide
no = wide.literal (tree.truth false)

abbrev pub nothing : Wide
nothing = wide.literal tree.null

-- 1 / 0
abbrev pub wrong : Wide
wrong = wide.binary Divide (num 1) (num 0)

-- a name
abbrev pub name : String → Wide
name n = wide.name (codes n)

-- a.f and a.?f
abbrev pub dot : Wide → String → Wide
dot a f = wide.select a Plain (codes f)

abbrev pub maybe : Wide → String → Wide
maybe a f = wide.select a Optional (codes f)

-- a[k] and a[?k]
abbrev pub item : Wide → Wide → Wide
item a k = wide.index a Plain k

abbrev pub maybe_item : Wide → Wide → Wide
maybe_item a k = wide.index a Optional k

-- has(a.f)
abbrev pub has : Wide → String → Wide
has a f = wide.has a (codes f)

-- a call of the function n
abbrev pub call : String → List Wide → Wide
call n es = wide.call (codes n) (wides es)

-- a call of the method n
abbrev pub method : Wide → String → List Wide → Wide
method a n es = wide.method a (codes n) (wides es)

-- optional.of(a) and optional.none()
abbrev pub some : Wide → Wide
some a = method (name "optional") "of" (a ∷ [])

abbrev pub none : Wide
none = method (name "optional") "none" []

-- a.orValue(d) and a.hasValue()
abbrev pub or_value : Wide → Wide → Wide
or_value a d = method a "orValue" (d ∷ [])

abbrev pub has_value : Wide → Wide
has_value a = method a "hasValue" []

-- a list literal of these expressions
abbrev pub items : List Wide → WideItems
items [] = no_items
items (a ∷ more) = more_items Plain a (items more)

abbrev pub list_literal : List Wide → Wide
list_literal es = wide.list (items es)

-- a map literal of these keys and values
abbrev pub pairs : List (Wide × Wide) → WideEntries
pairs [] = no_entries
pairs (e ∷ more) = more_entries Plain e.0 e.1 (pairs more)

abbrev pub map_literal : List (Wide × Wide) → Wide
map_literal es = wide.map (pairs es)

-- ---- the environment

-- {"labels":{"app":"shop","team/a":"x"},"name":"web"}
abbrev pub metadata : Value
metadata = map (entries_of (
    (codes "labels", map (entries_of ((codes "app", text (codes "shop")) ∷ (codes "team/a", text (codes "x")) ∷ []))) ∷
    (codes "name", text (codes "web")) ∷ []))

-- {"args":["-v","--x=1"],"image":"reg.io/app:1.2","note":null,"paused":false,"ports":[{"name":"http","port":80},{"port":443}],
-- "replicas":3,"sel":{}}
abbrev pub spec : Value
spec = map (entries_of (
    (codes "args", list (items_of (text (codes "-v") ∷ text (codes "--x=1") ∷ []))) ∷
    (codes "image", text (codes "reg.io/app:1.2")) ∷
    (codes "note", null) ∷
    (codes "paused", boolean false) ∷ (
      codes "ports",
      list (items_of (
          map (entries_of ((codes "name", text (codes "http")) ∷ (codes "port", int (pos 80)) ∷ [])) ∷
          map (entries_of ((codes "port", int (pos 443)) ∷ [])) ∷ [])),
    ) ∷
    (codes "replicas", int (pos 3)) ∷
    (codes "sel", map (entries_of [])) ∷ []))

-- {"max":5}
abbrev pub params : Value
params = map (entries_of ((codes "max", int (pos 5)) ∷ []))

-- {"operation":"CREATE"}
abbrev pub request : Value
request = map (entries_of ((codes "operation", text (codes "CREATE")) ∷ []))

-- oldObject and namespaceObject are null; of the variables `one` is 1, `wrong` is the error and `missing` has no value
abbrev pub review : WideEnvironment
review = record {
  roots = record {
    object = map (entries_of ((codes "metadata", metadata) ∷ (codes "spec", spec) ∷ []));
    old_object = null;
    params = params;
    namespace_object = null;
    request = request;
  };
  items = [];
  variables = (codes "one", plain (int (pos 1))) ∷ (codes "wrong", failed) ∷ (codes "missing", absent) ∷ [];
}

-- the expression has this meaning in that environment, whatever the calls mean that the definitions leave open
abbrev pub WideGives : Wide → Outcome → Type 0
WideGives e x = (others : Wide → WideEnvironment → Outcome) → wide_meaning others e review ≡ x

-- outcomes
abbrev pub is_true : Outcome
is_true = plain (boolean true)

abbrev pub is_false : Outcome
is_false = plain (boolean false)

abbrev pub number : ℤ → Outcome
number z = plain (int z)

abbrev pub word : String → Outcome
word s = plain (text (codes s))

-- object.spec, and the operand without a value `object.spec.?missing`
abbrev pub object_spec : Wide
object_spec = dot (name "object") "spec"

abbrev pub labels : Wide
labels = dot (dot (name "object") "metadata") "labels"

abbrev pub missing : Wide
missing = maybe object_spec "missing"
