-- Roots with a table of indices beside the params, worked by hand.
use Rattle.std.specs.Prelude.{◌≡◌, true, false, pos, List, [], ◌∷◌, ◌++◌}
use Rattle.value_store.specs.Placing.{first_values}
use Rattle.value_store.specs.Value.{ValueOrError, error, value, null, int}
use Rattle.cel_macros.specs.Environment.{Roots}
use Rattle.wide_translation.specs.Placed.{with_tables}
use Rattle.wide_indices.specs.Tables.{index_tables}
use Rattle.wide_tables.specs.Rows.{few_roots, max_params}
use Rattle.wide_tables.specs.Wrapping.{contents_of, have_roots, is_value_at, root_values, wrapped_roots}

-- five different roots
abbrev pub roots : Roots
roots = record {
  object = int (pos 1);
  old_object = int (pos 2);
  params = int (pos 3);
  namespace_object = int (pos 4);
  request = int (pos 5);
}

-- nine references, of which all but one are values
abbrev pub but : ValueOrError → ValueOrError → ValueOrError → ValueOrError → ValueOrError → List ValueOrError
but a b c d e = error ∷ error ∷ error ∷ error ∷ a ∷ b ∷ c ∷ d ∷ e ∷ []

abbrev pub some : ValueOrError
some = value null

-- roots, their places and the table beside the params
pub record WrappingRowsStand : Type 0 where
  pub in_order : root_values roots ≡ int (pos 1) ∷ int (pos 2) ∷ int (pos 3) ∷ int (pos 4) ∷ int (pos 5) ∷ []
  pub contents : (contents_of roots).values
      ≡ first_values ++ (value (int (pos 1)) ∷ value (int (pos 2)) ∷ value (int (pos 3)) ∷ value (int (pos 4)) ∷ value (int (pos 5)) ∷ [])
  pub five_ints : (contents_of roots).charge ≡ 5
  pub object_stays : (wrapped_roots roots).object ≡ int (pos 1)
  pub request_stays : (wrapped_roots roots).request ≡ int (pos 5)
  pub params_beside : (wrapped_roots roots).params ≡ with_tables (index_tables 16) (int (pos 3))
  pub few_params : (wrapped_roots few_roots).params ≡ with_tables (index_tables 16) max_params
  pub all_there : have_roots (but some some some some some) ≡ true
  pub no_object : have_roots (but error some some some some) ≡ false
  pub no_old_object : have_roots (but some error some some some) ≡ false
  pub no_params : have_roots (but some some error some some) ≡ false
  pub no_namespace : have_roots (but some some some error some) ≡ false
  pub no_request : have_roots (but some some some some error) ≡ false
  pub nothing : have_roots [] ≡ false
  pub value_there : is_value_at (but some error error error error) 4 ≡ true
  pub error_there : is_value_at (but some error error error error) 5 ≡ false
  pub nothing_there : is_value_at [] 0 ≡ false
