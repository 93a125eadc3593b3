-- Roots with a table of indices beside the params, worked out by hand.
use Rattle.std.specs.Prelude.{◌≡◌, pos, [], ◌∷◌, codes}
use Rattle.value_store.specs.Value.{Value, null, int, list, map, items_of, no_entries, entry}
use Rattle.cel_macros.specs.Environment.{Roots}
use Rattle.wide_indices.specs.Tables.{index_tables}
use Rattle.wide_translation.specs.Placed.{with_tables}
use Rattle.wide_tables.specs.Wrapping.{contents_of, wrapped_roots}

-- {"max": 5}
abbrev pub max_params : Value
max_params = map (entry (codes "max") (int (pos 5)) no_entries)

abbrev pub few_roots : Roots
few_roots = record { object = map no_entries; old_object = null; params = max_params; namespace_object = null; request = map no_entries }

pub record WrapRowsHold : Type 0 where
  pub two_tables : with_tables (index_tables 2) max_params
      ≡ map (entry (codes "t") (map (entry (codes "n") (list (items_of (int (pos 0) ∷ int (pos 1) ∷ []))) no_entries))
      (entry (codes "v") max_params no_entries))
  pub own_charge : (contents_of few_roots).charge ≡ 10
  -- 16 ints and 9 for two maps, a list and three keys
  pub wrapped_charge : (contents_of (wrapped_roots few_roots)).charge ≡ 35
