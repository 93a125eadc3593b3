-- Short notation for translations that are worked out by hand.
use Rattle.std.specs.Prelude.{◌≡◌, ℕ, true, false, [], ◌∷◌, codes}
use Prim.Native.String.{String}
use Rattle.cel_reader.specs.Tree.{Tree, binary, ternary, index}
use Rattle.cel_reader.specs.Written as plain
use Rattle.cel_reader.specs.declared.operator.BinaryOperator.TheVariants.{And, Add, Equal, NotEqual, Less, In}
use Rattle.wide_reader.specs.Tree as wide
use Rattle.wide_reader.specs.Tree.{Wide, WideEntries}
use Rattle.wide_reader.specs.declared.wide.Access.{TheVariants.Optional}
use Rattle.wide_reader.specs.declared.wide.PairMacro.{PairMacro}
use Rattle.wide_kinds.specs.declared.kind.Kind.{TheVariants.Value}
use Rattle.wide_kinds.specs.declared.kind.ValueKind.{ValueKind}
use Rattle.wide_kinds.specs.declared.kind.ValueKind.TheVariants as kind
use Rattle.wide_meaning.specs.Written.{num, str, maybe, map_literal, object_spec}
use Rattle.wide_translation.specs.Carried as carried
use Rattle.wide_translation.specs.Carried.{WideFault, taken, refused}
use Rattle.wide_translation.specs.Scope.{scope_of, condition_scope}
use Rattle.wide_translation.specs.Translated.{translated}

-- without variables, the expression is translated to this tree of a value of this kind
abbrev pub Becomes : Wide → ValueKind → Tree → Type 0
Becomes e k a = translated (scope_of false []) e ≡ taken (carried.plain k a)

-- without variables, the expression is refused
abbrev pub WideIsRefused : Wide → WideFault → Type 0
WideIsRefused e f = translated (scope_of false []) e ≡ refused f

-- the same if the root `params` has tables
abbrev pub BecomesWithTables : Wide → ValueKind → Tree → Type 0
BecomesWithTables e k a = translated (scope_of true []) e ≡ taken (carried.plain k a)

-- the same for a match condition
abbrev pub BecomesInCondition : Wide → ValueKind → Tree → Type 0
BecomesInCondition e k a = translated (condition_scope false) e ≡ taken (carried.plain k a)

-- the same with the variables m, a map, and l, a list
abbrev pub BecomesWithVariables : Wide → ValueKind → Tree → Type 0
BecomesWithVariables e k a =
    translated (scope_of false ((codes "m", Value kind.Map) ∷ (codes "l", Value kind.List) ∷ [])) e ≡ taken (carried.plain k a)

-- object.spec and one of its fields, in the compiled language
abbrev pub plain_spec : Tree
plain_spec = plain.dot (plain.name "object") "spec"

abbrev pub plain_field : String → Tree
plain_field f = plain.dot plain_spec f

-- object.spec != null && has(object.spec.f)
abbrev pub is_there : String → Tree
is_there f = binary And (binary NotEqual plain_spec plain.nothing) (plain.call "has" (plain_field f ∷ []))

-- the list of that field, or []
abbrev pub field_or_nothing : String → Tree
field_or_nothing f = ternary (is_there f) (plain.list_literal (plain_field f ∷ [])) (plain.list_literal [])

-- {'a': 1}, as a wide expression and in the compiled language
abbrev pub map_a : Wide
map_a = map_literal ((str "a", num 1) ∷ [])

abbrev pub plain_a : Tree
plain_a = plain.map_literal ((plain.str "a", plain.num 1) ∷ [])

-- the iteration names of indices and keys, and the item n of a pair
abbrev pub plain_index : Tree
plain_index = plain.name "celbpf_i"

abbrev pub item_of : String → ℕ → Tree
item_of y n = index (plain.name y) (plain.num n)

-- a.map(celbpf_i, t)
abbrev pub each_index : Tree → Tree → Tree
each_index a t = plain.method a "map" (plain_index ∷ t ∷ [])

-- params.t.n.filter(celbpf_i, celbpf_i < size(a))
abbrev pub indices_of : Tree → Tree
indices_of a =
    plain.method (plain.dot (plain.dot (plain.name "params") "t") "n") "filter"
    (plain_index ∷ binary Less plain_index (plain.call "size" (a ∷ [])) ∷ [])

-- [a].map(x, t)[0]
abbrev pub let_in : String → Tree → Tree → Tree
let_in x a t = index (plain.method (plain.list_literal (a ∷ [])) "map" (plain.name x ∷ t ∷ [])) (plain.num 0)

-- the list a, bound to x: [a + []].map(x, t)[0]
abbrev pub list_in : String → Tree → Tree → Tree
list_in x a t = let_in x (binary Add a (plain.list_literal [])) t

abbrev pub first_held : Tree
first_held = plain.name "celbpf_a"

abbrev pub second_held : Tree
second_held = plain.name "celbpf_b"

-- [{'a': 1}].map(celbpf_a, celbpf_a.map(celbpf_i, t))[0]
abbrev pub of_a : Tree → Tree
of_a t = let_in "celbpf_a" plain_a (each_index first_held t)

-- a.all(celbpf_i, celbpf_i in b)
abbrev pub all_in : Tree → Tree → Tree
all_in a b = plain.method a "all" (plain_index ∷ binary In plain_index b ∷ [])

-- one more entry ?'f': object.spec.?f
abbrev pub maybe_entry : String → WideEntries → WideEntries
maybe_entry f more = wide.more_entries Optional (str f) (maybe object_spec f) more

-- [celbpf_i, object.spec[celbpf_i]]
abbrev pub pair_of_spec : Tree
pair_of_spec = plain.list_literal (plain_index ∷ index plain_spec plain_index ∷ [])

abbrev pub values_of_a : Tree
values_of_a = of_a (index (plain.name "celbpf_a") plain_index)

abbrev pub pairs_of_a : Tree
pairs_of_a = of_a (plain.list_literal (plain_index ∷ index (plain.name "celbpf_a") plain_index ∷ []))

-- a macro with two names
abbrev pub pairs : PairMacro → Wide → String → String → Wide → Wide
pairs m a k v p = wide.pair_fold m a (codes k) (codes v) p

-- a == b
abbrev pub same : Wide → Wide → Wide
same a b = wide.binary Equal a b

abbrev pub plain_same : Tree → Tree → Tree
plain_same a b = binary Equal a b

-- []
abbrev pub nothing_in : Tree
nothing_in = plain.list_literal []

-- whether object.spec is a list
abbrev pub spec_is_list : Tree
spec_is_list = plain_same (each_index plain_spec plain_index) plain_spec

-- t, unless the list bound to celbpf_a is empty
abbrev pub unless_empty : Tree → Tree → Tree
unless_empty e t = ternary (plain_same first_held nothing_in) e t
