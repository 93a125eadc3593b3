-- What the words of a frame keep: the items of iteration names, the value of a root's field, and those of lists.
use Rattle.std.specs.Prelude.{ℕ, ◌+◌, List, [], ◌∷◌, Option, Some, None}
use Rattle.value_store.specs.Value.{Value, ValueOrError, error}
use Rattle.cel_macros.specs.CoreTree.{Cores, no_cores, more_cores, literal}
use Rattle.cel_macros.specs.Environment.{Roots, name_value}
use Rattle.cel_macros.specs.Literals.{list_literal, literal_of}
use Rattle.cel_macros.specs.Selection.{field_of}
use Rattle.expression_code.specs.Limits.{word_limit}

-- a field of a root, such as `object.spec`
pub record RootField : Type 0 where
  pub root : List ℕ
  pub field : List ℕ

-- the words of a frame that hold the items of iteration names, the path whose value word 0 holds, and the lists of
-- literals whose values words above those of expressions hold
pub record FrameUse : Type 0 where
  pub items : List (List ℕ × ℕ)
  pub path : Option RootField
  pub lists : List Cores

-- no word is used
abbrev pub nothing_kept : FrameUse
nothing_kept = record { items = []; path = None; lists = [] }

-- adds the item of an iteration name. No path is kept inside its macro, where the name could hide the path's root
-- (macros refuse such names).
abbrev pub with_name : List ℕ → ℕ → FrameUse → FrameUse
with_name n k words = record words { items = (n, k) ∷ words.items; path = None }

-- only a path, outside all macros
abbrev pub with_path : RootField → FrameUse
with_path path = record { items = []; path = Some path; lists = [] }

-- these lists
abbrev pub with_lists : List Cores → FrameUse → FrameUse
with_lists lists words = record words { lists = lists }

-- the value of a path
abbrev pub path_value : RootField → Roots → List (List ℕ × Value) → ValueOrError
path_value path roots items = field_of (name_value path.root (record { roots = roots; items = items; variables = [] })) path.field

-- the values of literals; other items have none
abbrev pub literal_values : Cores → List ValueOrError
literal_values no_cores = []
literal_values (more_cores (literal l) more) = literal_of l ∷ literal_values more
literal_values (more_cores _ more) = error ∷ literal_values more

-- the value of a list of literals
abbrev pub list_value : Cores → ValueOrError
list_value items = list_literal (literal_values items)

-- the word that keeps the value of list i, above the words of expressions
abbrev pub list_word : ℕ → ℕ
list_word i = word_limit + i
