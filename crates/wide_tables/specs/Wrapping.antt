-- Roots whose params have a table of indices beside them.
use Rattle.std.specs.Prelude.{◌≡◌, ◌<◌, ◌≤◌, ℕ, Bool, true, ◌&&◌, List, [], ◌∷◌, ◌++◌, map, is_some, slice_get, Result, Ok, Err, ⊤}
use Rattle.value_store.specs.Calls.{value_at}
use Rattle.value_store.specs.Placing.{Contents, charge_limit, first_values}
use Rattle.value_store.specs.Roots.{sizes}
use Rattle.value_store.specs.Value.{Value, ValueOrError, value}
use Rattle.value_table.specs.Held.{Held, held_contents}
use Rattle.cel_macros.specs.Environment.{Roots}
use Rattle.wide_translation.specs.Placed.{placed}
use Rattle.wide_indices.specs.Tables.{index_tables, table_length}
use Rattle.wide_tables.specs.declared.wrap_error.WrapError.{WrapError, TheVariants.NoRoots, TheVariants.TooLarge, TheVariants.Memory}

-- the roots in the order of their references, from 4 on
abbrev pub root_values : Roots → List Value
root_values r = r.object ∷ r.old_object ∷ r.params ∷ r.namespace_object ∷ r.request ∷ []

-- the contents at the start with these roots
abbrev pub contents_of : Roots → Contents
contents_of r = record { values = first_values ++ map value (root_values r); charge = sizes (root_values r) }

-- the roots with {"t": {"n": [0, 1, ..]}, "v": params} for the params, and as many indices as the roots are wide
abbrev pub wrapped_roots : Roots → Roots
wrapped_roots r = placed true (index_tables (table_length r)) r

-- the contents that are due, if they are within the limit; an allocation may fail
abbrev pub WrapReturns : Contents → Result Held WrapError → Type 0
WrapReturns due (Ok t) = (due ≡ held_contents t) × (due.charge ≤ charge_limit)
WrapReturns due (Err NoRoots) = ⊥
WrapReturns due (Err TooLarge) = charge_limit < due.charge
WrapReturns due (Err Memory) = ⊤

-- whether the references of the roots have values
abbrev pub is_value_at : List ValueOrError → ℕ → Bool
is_value_at vs h = is_some (value_at (slice_get vs h))

abbrev pub have_roots : List ValueOrError → Bool
have_roots vs = (((is_value_at vs 4 && is_value_at vs 5) && is_value_at vs 6) && is_value_at vs 7) && is_value_at vs 8
