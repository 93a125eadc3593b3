-- Translations of methods of lists that use the table of indices, worked out by hand.
use Rattle.std.specs.Prelude.{◌≡◌, true, [], ◌∷◌, codes}
use Prim.Native.String.{String}
use Rattle.cel_reader.specs.Tree.{Tree, binary, unary, ternary, index}
use Rattle.cel_reader.specs.Written as plain
use Rattle.cel_reader.specs.declared.operator.BinaryOperator.TheVariants.{And, Equal, Less, LessEqual, Add, Subtract}
use Rattle.cel_reader.specs.declared.operator.UnaryOperator.TheVariants.{Not}
use Rattle.wide_kinds.specs.declared.kind.ValueKind.TheVariants as kind
use Rattle.wide_meaning.specs.Written.{num, str, maybe, method, list_literal, object_spec}
use Rattle.wide_translation.specs.Carried.{WideFault, UnknownName, OptionalValue, NeedsIndices, refused}
use Rattle.wide_translation.specs.Scope.{scope_of}
use Rattle.wide_translation.specs.Translated.{translated}
use Rattle.wide_translation.specs.Written.{BecomesWithTables, WideIsRefused, plain_spec, plain_index, indices_of, let_in, list_in}
use Rattle.wide_translation.specs.Written.{first_held, second_held, nothing_in}
use Rattle.wide_reader.specs.Tree.{Wide}

-- the expression is refused, also if the root `params` has tables
abbrev pub IsRefusedWithTables : Wide → WideFault → Type 0
IsRefusedWithTables e f = translated (scope_of true []) e ≡ refused f

-- the third name that the translation binds, params.t.n, and size(celbpf_a) - 1
abbrev pub third_held : Tree
third_held = plain.name "celbpf_c"

abbrev pub table : Tree
table = plain.dot (plain.dot (plain.name "params") "t") "n"

abbrev pub end_of : Tree → Tree
end_of a = binary Subtract (plain.call "size" (a ∷ [])) (plain.num 1)

-- celbpf_a[celbpf_i]
abbrev pub item_here : Tree
item_here = index first_held plain_index

-- a macro over a, with the names of an index and of a second one
abbrev pub over : Tree → String → Tree → Tree
over a m t = plain.method a m (plain_index ∷ t ∷ [])

abbrev pub where_in : Tree → Tree → Tree
where_in a p = plain.method a "map" (plain_index ∷ p ∷ item_here ∷ [])

-- one of the places of 1 in [1], bound to celbpf_c, or -1
abbrev pub place_of_one : Tree → Tree
place_of_one t =
    list_in "celbpf_a" (plain.list_literal (plain.num 1 ∷ [])) (let_in "celbpf_b" (plain.num 1)
    (let_in "celbpf_c" (over (indices_of first_held) "filter" (binary Equal item_here second_held))
    (ternary (binary Equal third_held nothing_in) (plain.neg 1) t)))

pub record ListMethodRowsHold : Type 0 where
  -- object.spec.isSorted()
  pub sorted : BecomesWithTables (method object_spec "isSorted" []) kind.Bool
      (list_in "celbpf_a" plain_spec
      (over (over table "filter" (binary Less plain_index (end_of first_held))) "all"
      (binary LessEqual item_here (index first_held (binary Add plain_index (plain.num 1))))))
  -- object.spec.distinct()
  pub distinct : BecomesWithTables (method object_spec "distinct" []) kind.List
      (list_in "celbpf_a" plain_spec
      (where_in (indices_of first_held) (unary Not (plain.method table "exists" (second_held ∷
      binary And (binary Less second_held plain_index) (binary Equal (index first_held second_held) item_here) ∷ [])))))
  -- object.spec.reverse()
  pub reversed : BecomesWithTables (method object_spec "reverse" []) kind.List
      (list_in "celbpf_a" plain_spec
      (over (indices_of first_held) "map" (index first_held (binary Subtract (end_of first_held) plain_index))))
  -- object.spec.slice(1, 2)
  pub part : BecomesWithTables (method object_spec "slice" (num 1 ∷ num 2 ∷ [])) kind.List
      (list_in "celbpf_a" plain_spec (let_in "celbpf_b" (plain.num 1) (let_in "celbpf_c" (plain.num 2)
      (ternary
      (binary And (binary And (binary LessEqual (plain.num 0) second_held) (binary LessEqual second_held third_held))
      (binary LessEqual third_held (plain.call "size" (first_held ∷ []))))
      (where_in (indices_of first_held) (binary And (binary LessEqual second_held plain_index) (binary Less plain_index third_held)))
      (index nothing_in (plain.num 0))))))
  -- [1].indexOf(1) and [1].lastIndexOf(1)
  pub first_place : BecomesWithTables (method (list_literal (num 1 ∷ [])) "indexOf" (num 1 ∷ [])) kind.Int
      (place_of_one (index third_held (plain.num 0)))
  pub last_place : BecomesWithTables (method (list_literal (num 1 ∷ [])) "lastIndexOf" (num 1 ∷ [])) kind.Int
      (place_of_one (index third_held (end_of third_held)))
  -- without tables: object.spec.reverse() and [1].indexOf(1)
  pub no_indices : WideIsRefused (method object_spec "reverse" []) NeedsIndices
  pub no_places : WideIsRefused (method (list_literal (num 1 ∷ [])) "indexOf" (num 1 ∷ [])) NeedsIndices
  -- object.spec.indexOf(1), 'a'.lastIndexOf('a'), object.spec.reverse(1) and object.spec.slice(1)
  pub place_in_any : IsRefusedWithTables (method object_spec "indexOf" (num 1 ∷ [])) (UnknownName (codes "indexOf"))
  pub place_in_text : IsRefusedWithTables (method (str "a") "lastIndexOf" (str "a" ∷ [])) (UnknownName (codes "lastIndexOf"))
  pub reversed_by : IsRefusedWithTables (method object_spec "reverse" (num 1 ∷ [])) (UnknownName (codes "reverse"))
  pub one_bound : IsRefusedWithTables (method object_spec "slice" (num 1 ∷ [])) (UnknownName (codes "slice"))
  -- object.spec.?a.distinct()
  pub of_optional : IsRefusedWithTables (method (maybe object_spec "a") "distinct" []) OptionalValue
