-- The ends of sequences in each measure, and forms that no other row measures; worked by hand from docs/CEL.md.
use Rattle.std.specs.Prelude.{◌≡◌, pos, [], ◌∷◌, codes}
use Rattle.cel_reader.specs.Tree as tree
use Rattle.cel_macros.specs.Callee.{Unknown}
use Rattle.cel_macros.specs.CoreTree as core
use Rattle.cel_macros.specs.CoreTree.{Core, more_core_entries, more_cores, no_core_entries, no_cores}
use Rattle.cel_measures.specs.Measures.{call_need, deepest, deepest_of, depth, entries_deepest, entries_need, entries_nodes}
use Rattle.cel_measures.specs.Measures.{need, needs, needs_behind, nodes, nodes_of}

-- 1, and variables.v
abbrev pub one : Core
one = core.literal (tree.int (pos 1))

abbrev pub v : Core
v = core.variable (codes "v")

-- nodes and stack words
pub record NeedRowsStand : Type 0 where
  pub nodes_of_variable : nodes v ≡ 1
  pub nodes_of_name : nodes (core.name (codes "i")) ≡ 1
  pub nodes_of_none : nodes_of no_cores ≡ 0
  pub nodes_of_two : nodes_of (more_cores one (more_cores v no_cores)) ≡ 2
  pub nodes_of_no_entry : entries_nodes no_core_entries ≡ 0
  pub nodes_of_two_entries : entries_nodes (more_core_entries one one (more_core_entries one v no_core_entries)) ≡ 4
  pub need_of_variable : need v ≡ 1
  pub need_of_name : need (core.name (codes "i")) ≡ 1
  pub need_of_call_without : call_need no_cores ≡ 1
  -- the first of two arguments is kept in a word
  pub need_of_two_arguments : call_need (more_cores one (more_cores one no_cores)) ≡ 2
  pub need_of_none : needs no_cores ≡ 0
  pub need_of_two : needs (more_cores one (more_cores one no_cores)) ≡ 1
  pub need_behind_none : needs_behind no_cores ≡ 0
  pub need_behind_one : needs_behind (more_cores one no_cores) ≡ 2
  pub need_of_no_entry : entries_need no_core_entries ≡ 0
  -- the map is kept in one word and a key in one more while its value is evaluated
  pub need_of_one_entry : entries_need (more_core_entries one one no_core_entries) ≡ 3

-- depths of variables
pub record DepthRowsStand : Type 0 where
  pub literal : deepest one ((codes "v", 2) ∷ []) ≡ 0
  pub name : deepest (core.name (codes "v")) ((codes "v", 2) ∷ []) ≡ 0
  pub variable : deepest v ((codes "u", 5) ∷ (codes "v", 2) ∷ []) ≡ 2
  pub no_variable : deepest v [] ≡ 0
  pub of_none : deepest_of no_cores ((codes "v", 2) ∷ []) ≡ 0
  pub last_of_two : deepest_of (more_cores one (more_cores v no_cores)) ((codes "v", 2) ∷ []) ≡ 2
  pub of_no_entry : entries_deepest no_core_entries ((codes "v", 2) ∷ []) ≡ 0
  pub in_a_value : entries_deepest (more_core_entries one v no_core_entries) ((codes "v", 2) ∷ []) ≡ 2
  pub in_a_key : entries_deepest (more_core_entries v one no_core_entries) ((codes "v", 2) ∷ []) ≡ 2
  pub next_depth : depth v ((codes "v", 2) ∷ []) ≡ 3
  pub first_depth : depth (core.call (Unknown (codes "f")) no_cores) ((codes "v", 2) ∷ []) ≡ 1
