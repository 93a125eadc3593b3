-- Fields, items and entries, of values and of optional values.
use Rattle.std.specs.Prelude.{ℕ, pos, negsuc, List, slice_get}
use Rattle.value_store.specs.Value.{Value, value, null, int, text, list, map, list_of}
use Rattle.value_store.specs.Lookup.{find}
use Rattle.cel_macros.specs.Selection.{field_of, index_of}
use Rattle.wide_reader.specs.declared.wide.Access.{Access, TheVariants.Plain, TheVariants.Optional}
use Rattle.wide_meaning.specs.Outcome.{Outcome, failed, plain, absent, present, outcome_of, optional_of, is_present}

-- the field f of a value as an optional value: null has none; the error for all but null and a map
abbrev pub sel : Value → List ℕ → Outcome
sel null f = absent
sel (map es) f = optional_of (find f es)
sel _ f = failed

-- the item or entry k of a value as an optional value: null has none; the error for all but null, a map and a list,
-- and for an index that does not fit
abbrev pub at : Value → Value → Outcome
at null (int z) = absent
at null (text s) = absent
at (map es) (text k) = optional_of (find k es)
at (list is) (int (pos i)) = optional_of (slice_get (list_of is) i)
at (list is) (int (negsuc i)) = absent
at _ _ = failed

-- `x.f` or `x.?f`
abbrev pub field_in : Access → Outcome → List ℕ → Outcome
field_in o absent f = absent
field_in o (present x) f = sel x f
field_in Plain (plain x) f = outcome_of (field_of (value x) f)
field_in Optional (plain x) f = sel x f
field_in o failed f = failed

-- `x[k]` or `x[?k]`: of an optional value without a value none, for any k
abbrev pub index_in : Access → Outcome → Outcome → Outcome
index_in o absent k = absent
index_in o (present x) (plain k) = at x k
index_in Plain (plain x) (plain k) = outcome_of (index_of (value x) (value k))
index_in Optional (plain x) (plain k) = at x k
index_in o _ _ = failed

-- `has(x.f)`
abbrev pub has_in : Outcome → List ℕ → Outcome
has_in x f = is_present (field_in Optional x f)
