-- The lists of literals whose values a frame keeps: those inside macros, at most four. Others are made at each visit.
use Rattle.std.specs.Prelude.{ℕ, suc, Bool, true, false, not, ◌&&◌, nat_lt, List, [], ◌∷◌, ◌++◌, length, take, Option, Some, None, IsSome, option_map, if◌then◌else◌, bytes_eq}
use Rattle.value_store.specs.Equality.{int_equal, truth_equal}
use Rattle.insn_codec.specs.declared.insn.Insn.{Insn}
use Rattle.cel_reader.specs.Tree as tree
use Rattle.cel_macros.specs.CoreTree as core
use Rattle.cel_macros.specs.CoreTree.{Core, Cores, CoreEntries, no_cores, more_cores, no_core_entries, more_core_entries}
use Rattle.expression_code.specs.Code.KeptLists.{kept_front_slots, kept_list_code}
use Rattle.expression_code.specs.Paths.{list_word}

-- ---- equal lists of literals

abbrev pub is_literal : Core → Bool
is_literal (core.literal l) = true
is_literal _ = false

abbrev pub same_literal : tree.Literal → tree.Literal → Bool
same_literal (tree.int a) (tree.int b) = int_equal a b
same_literal (tree.text a) (tree.text b) = bytes_eq a b
same_literal (tree.truth a) (tree.truth b) = truth_equal a b
same_literal tree.null tree.null = true
same_literal _ _ = false

-- whether both are the same literal
abbrev pub same_item : Core → Core → Bool
same_item (core.literal a) (core.literal b) = same_literal a b
same_item _ _ = false

-- whether both are lists of the same literals
abbrev pub same_items : Cores → Cores → Bool
same_items no_cores no_cores = true
same_items (more_cores a more) (more_cores b others) = same_item a b && same_items more others
same_items _ _ = false

-- the number of the first of the kept lists that has these items
abbrev pub kept_place : Cores → List Cores → Option ℕ
kept_place items [] = None
kept_place items (list ∷ more) = if same_items list items then Some 0 else option_map suc (kept_place items more)

-- ---- the code of a list

-- the number of slots before a list's own code
abbrev pub list_front : Option ℕ → ℕ
list_front (Some i) = kept_front_slots
list_front None = 0

-- the code of a list that is kept under this number, or is not kept
abbrev pub kept_or_made : Option ℕ → List Insn → List Insn
kept_or_made (Some i) made = kept_list_code (list_word i) made
kept_or_made None made = made

-- ---- the lists to keep

-- the largest number of lists that a frame keeps, and that it keeps beside a path
abbrev pub list_limit : ℕ
list_limit = 4

abbrev pub limit_with_path : ℕ
limit_with_path = 2

abbrev pub are_literals : Cores → Bool
are_literals no_cores = true
are_literals (more_cores a more) = is_literal a && are_literals more

abbrev pub is_none : {A : Type 0} → Option A → Bool
is_none (Some x) = false
is_none None = true

-- with one more list, if there is room and it is not already there
abbrev pub with_list : Bool → List Cores → Cores → List Cores
with_list inside lists items =
    if inside && (are_literals items && (nat_lt (length lists) list_limit && is_none (kept_place items lists))) then lists ++ items ∷ []
    else lists

unfoldable mutual
  -- with the lists of literals in an expression, which is inside a macro or outside all macros
  pub with_lists_of : Bool → List Cores → Core → List Cores
  with_lists_of inside lists (core.literal l) = lists
  with_lists_of inside lists (core.name n) = lists
  with_lists_of inside lists (core.variable v) = lists
  with_lists_of inside lists (core.select a f) = with_lists_of inside lists a
  with_lists_of inside lists (core.has a f) = with_lists_of inside lists a
  with_lists_of inside lists (core.index a b) = with_lists_of inside (with_lists_of inside lists a) b
  with_lists_of inside lists (core.call n arguments) = with_lists_of_each inside lists arguments
  with_lists_of inside lists (core.method a n arguments) = with_lists_of_each inside (with_lists_of inside lists a) arguments
  with_lists_of inside lists (core.unary op a) = with_lists_of inside lists a
  with_lists_of inside lists (core.binary op a b) = with_lists_of inside (with_lists_of inside lists a) b
  with_lists_of inside lists (core.ternary c a b) = with_lists_of inside (with_lists_of inside (with_lists_of inside lists c) a) b
  with_lists_of inside lists (core.list items) = with_lists_of_each inside (with_list inside lists items) items
  with_lists_of inside lists (core.map es) = with_lists_of_entries inside lists es
  with_lists_of inside lists (core.fold m n r p) = with_lists_of true (with_lists_of inside lists r) p
  with_lists_of inside lists (core.fold_map n r p t) = with_lists_of true (with_lists_of true (with_lists_of inside lists r) p) t

  pub with_lists_of_each : Bool → List Cores → Cores → List Cores
  with_lists_of_each inside lists no_cores = lists
  with_lists_of_each inside lists (more_cores a more) = with_lists_of_each inside (with_lists_of inside lists a) more

  pub with_lists_of_entries : Bool → List Cores → CoreEntries → List Cores
  with_lists_of_entries inside lists no_core_entries = lists
  with_lists_of_entries inside lists (more_core_entries k v more) =
      with_lists_of_entries inside (with_lists_of inside (with_lists_of inside lists k) v) more

-- the lists that the frame of an expression keeps
abbrev pub kept_lists : Core → List Cores
kept_lists e = take list_limit (with_lists_of false [] e)
