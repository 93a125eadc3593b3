-- The type table as a relation over the types of an expression's parts, with one case for each row, or more if a row
-- has several forms.
use Rattle.std.specs.Prelude.{◌≡◌, ℕ, true, false, List, [], ◌∷◌, Contains, Some, if◌then◌else◌}
use Rattle.cel_reader.specs.Tree as tree
use Rattle.cel_reader.specs.Tree.{Tree, Literal, Trees, TreeEntries, no_trees, more_trees}
use Rattle.cel_reader.specs.declared.operator.BinaryOperator.{BinaryOperator}
use Rattle.cel_reader.specs.declared.operator.BinaryOperator.TheVariants as binary
use Rattle.cel_reader.specs.declared.operator.UnaryOperator.TheVariants as unary
use Rattle.cel_macros.specs.Environment.{lookup}
use Rattle.cel_macros.specs.Functions.{function_named, test_named}
use Rattle.cel_macros.specs.declared.function.Function.{TheVariants.Size, TheVariants.String, TheVariants.Dyn}
use Rattle.cel_macros.specs.declared.text_test.TextTest.{TextTest}
use Rattle.cel_macros.specs.declared.macros.Macro.{Macro, TheVariants.All, TheVariants.Exists, TheVariants.ExistsOne, TheVariants.Filter, TheVariants.Map}
use Rattle.cel_macros.specs.Macros.{macro_named, is_map, is_has, is_variables}
use Rattle.cel_types.specs.declared.cel_type.CelType.{CelType}
use Rattle.cel_types.specs.declared.cel_type.CelType.TheVariants as type
use Rattle.cel_types.specs.Types.{same_type, known_of}
use Rattle.cel_types.specs.Scope.{Scope, is_known}
use Rattle.cel_types.specs.TypeTable.{literal_type}

-- an operand that should have type k may have this type: k or Dyn
pub data MayBe : CelType → CelType → Type 0 where
  known : {k : CelType} → MayBe k k
  dynamic : {k : CelType} → MayBe k type.Dyn

-- it may have one of these types
abbrev pub MayBeOne : List CelType → CelType → Type 0
MayBeOne ks x = (k : CelType) × Contains ks k × MayBe k x

-- both may have the same one of these types
abbrev pub MayBothBeOne : List CelType → CelType → CelType → Type 0
MayBothBeOne ks x y = (k : CelType) × Contains ks k × MayBe k x × MayBe k y

-- both may have one type
abbrev pub MayAgree : CelType → CelType → Type 0
MayAgree x y = (k : CelType) × MayBe k x × MayBe k y

-- in a list of keys and values in turn, each key may be a string
pub data HasTextKeys : List CelType → Type 0 where
  no_keys : HasTextKeys []
  next_key : {k v : CelType} {more : List CelType} → MayBe type.String k → HasTextKeys more → HasTextKeys (k ∷ v ∷ more)

-- in this scope an expression whose parts have these types, in order, has this type (docs/CEL.md, Types)
pub data IsRow (s : Scope) : Tree → List CelType → CelType → Type 0 where
  -- a literal has its own type
  a_literal : (l : Literal) → IsRow s (tree.literal l) [] (literal_type l)
  -- a root or an iteration name is Dyn
  a_name : {n : List ℕ} → is_variables (tree.name n) ≡ false → is_known n s.items ≡ true → IsRow s (tree.name n) [] type.Dyn
  -- variables.v has the type of v, if v is in scope
  a_variable : {a : Tree} {v : List ℕ} {t : CelType} → is_variables a ≡ true → lookup v s.variables ≡ Some t
      → IsRow s (tree.select a v) [] t
  -- a.f of a map is Dyn
  a_field : {a : Tree} {f : List ℕ} {x : CelType} → is_variables a ≡ false → MayBe type.Map x
      → IsRow s (tree.select a f) (x ∷ []) type.Dyn
  -- has(a.f) of a map is a bool
  a_has : {n : List ℕ} {a : Tree} {f : List ℕ} {x : CelType} → is_has n ≡ true → MayBe type.Map x
      → IsRow s (tree.call n (more_trees (tree.select a f) no_trees)) (x ∷ []) type.Bool
  -- a[k] of a list by an int is Dyn
  an_item : {a k : Tree} {x y : CelType} → MayBe type.List x → MayBe type.Int y → IsRow s (tree.index a k) (x ∷ y ∷ []) type.Dyn
  -- a[k] of a map by a string is Dyn
  an_entry : {a k : Tree} {x y : CelType} → MayBe type.Map x → MayBe type.String y → IsRow s (tree.index a k) (x ∷ y ∷ []) type.Dyn
  -- !a of a bool is a bool
  a_not : {a : Tree} {x : CelType} → MayBe type.Bool x → IsRow s (tree.unary unary.Not a) (x ∷ []) type.Bool
  -- -a of an int is an int
  a_negation : {a : Tree} {x : CelType} → MayBe type.Int x → IsRow s (tree.unary unary.Negate a) (x ∷ []) type.Int
  -- a + b of two ints, two strings or two lists has their type, and Dyn if both are Dyn
  a_sum : {a b : Tree} {x y : CelType} → MayBothBeOne (type.Int ∷ type.String ∷ type.List ∷ []) x y
      → IsRow s (tree.binary binary.Add a b) (x ∷ y ∷ []) (known_of x y)
  -- -, *, / and % of two ints are an int
  an_arithmetic : {o : BinaryOperator} {a b : Tree} {x y : CelType}
      → Contains (binary.Subtract ∷ binary.Multiply ∷ binary.Divide ∷ binary.Remainder ∷ []) o → MayBe type.Int x → MayBe type.Int y
      → IsRow s (tree.binary o a b) (x ∷ y ∷ []) type.Int
  -- == and != of two values of one type are a bool
  an_equality : {o : BinaryOperator} {a b : Tree} {x y : CelType} → Contains (binary.Equal ∷ binary.NotEqual ∷ []) o → MayAgree x y
      → IsRow s (tree.binary o a b) (x ∷ y ∷ []) type.Bool
  -- <, <=, >= and > of two ints, two strings or two bools are a bool
  an_order : {o : BinaryOperator} {a b : Tree} {x y : CelType}
      → Contains (binary.Less ∷ binary.LessEqual ∷ binary.GreaterEqual ∷ binary.Greater ∷ []) o
      → MayBothBeOne (type.Int ∷ type.String ∷ type.Bool ∷ []) x y → IsRow s (tree.binary o a b) (x ∷ y ∷ []) type.Bool
  -- a in b, with any a and a list b, is a bool
  a_member : {a b : Tree} {x y : CelType} → MayBe type.List y → IsRow s (tree.binary binary.In a b) (x ∷ y ∷ []) type.Bool
  -- a in b, with a string a and a map b, is a bool
  a_key : {a b : Tree} {x y : CelType} → MayBe type.String x → MayBe type.Map y
      → IsRow s (tree.binary binary.In a b) (x ∷ y ∷ []) type.Bool
  -- && and || of two bools are a bool
  a_logic : {o : BinaryOperator} {a b : Tree} {x y : CelType} → Contains (binary.And ∷ binary.Or ∷ []) o → MayBe type.Bool x
      → MayBe type.Bool y → IsRow s (tree.binary o a b) (x ∷ y ∷ []) type.Bool
  -- c ? a : b of a bool and two values of one type has that type, and Dyn if one of them is Dyn
  a_choice : {c a b : Tree} {x y z : CelType} → MayBe type.Bool x → MayAgree y z
      → IsRow s (tree.ternary c a b) (x ∷ y ∷ z ∷ []) (if same_type y z then y else type.Dyn)
  -- [a, b] of any values is a list
  a_list : {items : Trees} {ts : List CelType} → IsRow s (tree.list items) ts type.List
  -- {k: v} is a map, if its keys are strings
  a_map : {es : TreeEntries} {ts : List CelType} → HasTextKeys ts → IsRow s (tree.map es) ts type.Map
  -- size(a) of a string, a list or a map is an int
  a_size : {n : List ℕ} {a : Tree} {x : CelType} → function_named n ≡ Some Size → MayBeOne (type.String ∷ type.List ∷ type.Map ∷ []) x
      → IsRow s (tree.call n (more_trees a no_trees)) (x ∷ []) type.Int
  -- a.size() is too
  a_size_method : {n : List ℕ} {a : Tree} {x : CelType} → function_named n ≡ Some Size
      → MayBeOne (type.String ∷ type.List ∷ type.Map ∷ []) x → IsRow s (tree.method a n no_trees) (x ∷ []) type.Int
  -- string(a) of an int or a string is a string
  a_string : {n : List ℕ} {a : Tree} {x : CelType} → function_named n ≡ Some String → MayBeOne (type.Int ∷ type.String ∷ []) x
      → IsRow s (tree.call n (more_trees a no_trees)) (x ∷ []) type.String
  -- dyn(a) of any value is Dyn
  a_dyn : {n : List ℕ} {a : Tree} {x : CelType} → function_named n ≡ Some Dyn
      → IsRow s (tree.call n (more_trees a no_trees)) (x ∷ []) type.Dyn
  -- a.startsWith(b), a.endsWith(b) and a.contains(b) of two strings are a bool
  a_test : {n : List ℕ} {f : TextTest} {a b : Tree} {x y : CelType} → test_named n ≡ Some f → MayBe type.String x
      → MayBe type.String y → IsRow s (tree.method a n (more_trees b no_trees)) (x ∷ y ∷ []) type.Bool
  -- r.all(i, p), r.exists(i, p) and r.exists_one(i, p) of a list or a map and a bool are a bool
  a_quantifier : {n i : List ℕ} {m : Macro} {a p : Tree} {r x : CelType} → macro_named n ≡ Some m
      → Contains (All ∷ Exists ∷ ExistsOne ∷ []) m → MayBeOne (type.List ∷ type.Map ∷ []) r → MayBe type.Bool x
      → IsRow s (tree.method a n (more_trees (tree.name i) (more_trees p no_trees))) (r ∷ x ∷ []) type.Bool
  -- r.filter(i, p) of a list or a map and a bool is a list
  a_filter : {n i : List ℕ} {a p : Tree} {r x : CelType} → macro_named n ≡ Some Filter → MayBeOne (type.List ∷ type.Map ∷ []) r
      → MayBe type.Bool x → IsRow s (tree.method a n (more_trees (tree.name i) (more_trees p no_trees))) (r ∷ x ∷ []) type.List
  -- r.map(i, t) of a list or a map and any value is a list
  a_transform : {n i : List ℕ} {a t : Tree} {r x : CelType} → macro_named n ≡ Some Map → MayBeOne (type.List ∷ type.Map ∷ []) r
      → IsRow s (tree.method a n (more_trees (tree.name i) (more_trees t no_trees))) (r ∷ x ∷ []) type.List
  -- r.map(i, p, t) of a list or a map, a bool and any value is a list
  a_filtered_transform : {n i : List ℕ} {a p t : Tree} {r x y : CelType} → is_map n ≡ true → MayBeOne (type.List ∷ type.Map ∷ []) r
      → MayBe type.Bool x
      → IsRow s (tree.method a n (more_trees (tree.name i) (more_trees p (more_trees t no_trees)))) (r ∷ x ∷ y ∷ []) type.List
