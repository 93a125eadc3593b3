-- Which values may be roots.
use Rattle.std.specs.Prelude.{◌≡◌, ℕ, Bool, true, false, List, Option, Some, None, Result, Ok, Err, ◌⊎◌}
use Rattle.value_store.specs.Value as kind
use Rattle.value_store.specs.Value.{Value}
use Rattle.value_store.specs.declared.table_error.TableError.{TableError, TheVariants.NotAnObject, TheVariants.NumberOutOfInt64}
use Rattle.value_table.specs.Meaning.{value_in}
use Rattle.review_tables.specs.declared.placed.Placed.{Placed}

abbrev pub is_root_value : Value → Bool
is_root_value kind.null = true
is_root_value (kind.boolean b) = false
is_root_value (kind.int n) = false
is_root_value (kind.text s) = false
is_root_value (kind.list is) = false
is_root_value (kind.map es) = true

-- the value of the root, or its refusal
abbrev pub IsRootOrRefused : List Value → ℕ → Option Placed → Result Value TableError → Type 0
IsRootOrRefused vs place (Some p) due = due ≡ Ok (value_in vs p.place)
IsRootOrRefused vs place None due = (due ≡ Err (NotAnObject place)) ⊎ (due ≡ Err (NumberOutOfInt64 place))
