-- Translations of computed indices, worked out by hand.
use Rattle.std.specs.Prelude.{[], ◌∷◌, codes}
use Prim.Native.String.{String}
use Rattle.cel_reader.specs.Tree.{Tree, binary, ternary, index}
use Rattle.cel_reader.specs.Written as plain
use Rattle.cel_reader.specs.declared.operator.BinaryOperator.TheVariants.{And, Add, Subtract, NotEqual, Less, LessEqual, In}
use Rattle.wide_reader.specs.Tree as wide
use Rattle.wide_reader.specs.Tree.{Wide}
use Rattle.wide_kinds.specs.declared.kind.ValueKind.TheVariants as kind
use Rattle.wide_meaning.specs.Written.{num, neg, str, name, dot, maybe, item, maybe_item, call, or_value, has_value}
use Rattle.wide_translation.specs.Carried.{UnknownName, OptionalValue}
use Rattle.wide_translation.specs.Written.{Becomes, BecomesWithVariables, WideIsRefused, let_in, each_index, plain_same}
use Rattle.wide_translation.specs.Written.{nothing_in, first_held, second_held}

-- object.f, as a wide expression and in the compiled language
abbrev field : String → Wide
field f = dot (name "object") f

abbrev plain_field : String → Tree
plain_field f = plain.dot (plain.name "object") f

-- object.spec.args
abbrev plain_args : Tree
plain_args = plain.dot (plain_field "spec") "args"

-- the variables of `BecomesWithVariables`
abbrev variable : String → Tree
variable v = plain.dot (plain.name "variables") v

-- k < size(a) ? 0 <= k : false
abbrev is_inside : Tree → Tree → Tree
is_inside a k = ternary (binary Less k (plain.call "size" (a ∷ []))) (binary LessEqual (plain.num 0) k) plain.no

-- string(k) != string(k)
abbrev unequal_text : Tree → Tree
unequal_text k = binary NotEqual (plain.call "string" (k ∷ [])) (plain.call "string" (k ∷ []))

-- a == null ? none : t
abbrev unless_null : Tree → Tree → Tree → Tree
unless_null a none t = ternary (plain_same a plain.nothing) none t

-- a == null ? string(k) != string(k) : a.map(i, i) == a ? inside : k in a, as k may be an int or a text
abbrev is_in_any : Tree → Tree → Tree
is_in_any a k =
    unless_null a (unequal_text k) (ternary (plain_same (each_index a (plain.name "celbpf_i")) a) (is_inside a k) (binary In k a))

-- the same for an int, and for a text
abbrev is_in_list : Tree → Tree → Tree → Tree
is_in_list a none k = unless_null a none (is_inside (binary Add a nothing_in) k)

abbrev is_in_map : Tree → Tree → Tree
is_in_map a k =
    unless_null a (unequal_text k) (ternary (plain.call "has" (plain.dot a "a" ∷ [])) (binary In k a) (binary In k a))

-- there ? [a[k]] : []
abbrev one_at : Tree → Tree → Tree → Tree
one_at there a k = ternary there (plain.list_literal (index a k ∷ [])) nothing_in

-- (l.map(celbpf_a, t) + [[]])[0]
abbrev flat_of : Tree → Tree → Tree
flat_of l t =
    index (binary Add (plain.method l "map" (first_held ∷ t ∷ [])) (plain.list_literal (nothing_in ∷ []))) (plain.num 0)

-- whether a list has an item
abbrev is_some_item : Tree → Tree
is_some_item l = binary NotEqual l nothing_in

-- [object.f], or [] without it
abbrev maybe_field : String → Tree
maybe_field f =
    ternary (binary And (binary NotEqual (plain.name "object") plain.nothing) (plain.call "has" (plain_field f ∷ [])))
    (plain.list_literal (plain_field f ∷ [])) nothing_in

pub record OptionalIndexRowsHold : Type 0 where
  -- object.m[?object.k].hasValue()
  pub any : Becomes (has_value (maybe_item (field "m") (field "k"))) kind.Bool (is_in_any (plain_field "m") (plain_field "k"))
  -- object.spec.args[?0].orValue('')
  pub first : Becomes (or_value (maybe_item (dot (field "spec") "args") (num 0)) (str "")) kind.Dyn
      (ternary (unless_null plain_args plain.no (binary Less (plain.num 0) (plain.call "size" (binary Add plain_args nothing_in ∷ []))))
      (index plain_args (plain.num 0)) (plain.str ""))
  -- object.l[?-1].hasValue()
  pub below : Becomes (has_value (maybe_item (field "l") (neg 1))) kind.Bool (is_in_list (plain_field "l") plain.no (plain.neg 1))
  -- object.l[?size(object.m) - 1].hasValue(): an int that is not simple
  pub last : Becomes (has_value (maybe_item (field "l") (wide.binary Subtract (call "size" (field "m" ∷ [])) (num 1)))) kind.Bool
      (is_some_item (let_in "celbpf_b" (binary Subtract (plain.call "size" (plain_field "m" ∷ [])) (plain.num 1))
      (one_at (is_in_list (plain_field "l") (unequal_text second_held) second_held) (plain_field "l") second_held)))
  -- object.m[?'a' + object.k].hasValue(): a text
  pub text : Becomes (has_value (maybe_item (field "m") (wide.binary Add (str "a") (field "k")))) kind.Bool
      (is_some_item (let_in "celbpf_b" (binary Add (plain.str "a") (plain_field "k"))
      (one_at (is_in_map (plain_field "m") second_held) (plain_field "m") second_held)))
  -- dyn(object.m)[?object.k].hasValue(), and dyn(object.m)[?dyn(object.k)].hasValue()
  pub operand_once : Becomes (has_value (maybe_item (call "dyn" (field "m" ∷ [])) (field "k"))) kind.Bool
      (is_some_item (let_in "celbpf_a" (plain.call "dyn" (plain_field "m" ∷ []))
      (one_at (is_in_any first_held (plain_field "k")) first_held (plain_field "k"))))
  pub both_once : Becomes (has_value (maybe_item (call "dyn" (field "m" ∷ [])) (call "dyn" (field "k" ∷ [])))) kind.Bool
      (is_some_item (let_in "celbpf_a" (plain.call "dyn" (plain_field "m" ∷ []))
      (let_in "celbpf_b" (plain.call "dyn" (plain_field "k" ∷ []))
      (one_at (is_in_any first_held second_held) first_held second_held))))
  -- variables.m[?object.k].orValue(1), and variables.l[?object.k].hasValue()
  pub of_map : BecomesWithVariables (or_value (maybe_item (dot (name "variables") "m") (field "k")) (num 1)) kind.Dyn
      (ternary (binary In (plain_field "k") (variable "m")) (index (variable "m") (plain_field "k")) (plain.num 1))
  pub of_list : BecomesWithVariables (has_value (maybe_item (dot (name "variables") "l") (field "k"))) kind.Bool
      (is_inside (variable "l") (plain_field "k"))
  -- object.?m[object.k].hasValue(), and object.?m[?'a' + object.k].hasValue()
  pub of_optional : Becomes (has_value (item (maybe (name "object") "m") (field "k"))) kind.Bool
      (is_some_item (flat_of (maybe_field "m") (one_at (is_in_any first_held (plain_field "k")) first_held (plain_field "k"))))
  pub of_optional_once : Becomes (has_value (maybe_item (maybe (name "object") "m") (wide.binary Add (str "a") (field "k")))) kind.Bool
      (is_some_item (flat_of (maybe_field "m") (let_in "celbpf_b" (binary Add (plain.str "a") (plain_field "k"))
      (one_at (is_in_map first_held second_held) first_held second_held))))
  -- object.m[?object.?k], object.?m[object.?k] and object.m[?nothing]
  pub optional_index : WideIsRefused (maybe_item (field "m") (maybe (name "object") "k")) OptionalValue
  pub optional_index_of_optional : WideIsRefused (item (maybe (name "object") "m") (maybe (name "object") "k")) OptionalValue
  pub unknown_index : WideIsRefused (maybe_item (field "m") (name "nothing")) (UnknownName (codes "nothing"))
