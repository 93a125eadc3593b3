-- Values that are added to a table.
use Rattle.std.specs.Prelude.{◌≡◌, ℕ, List, ◌++◌, Some, Result, Ok, Err, slice_get, ⊤}
use Rattle.std.specs.declared.alloc.AllocError.{AllocError}
use Rattle.value_store.specs.Value.{Value, ValueOrError, value}
use Rattle.value_table.specs.Held.{Held}

-- values are added after those that the table has, and v is at the reference h
pub record HasAdded (old new : Held) (h : ℕ) (v : Value) : Type 0 where
  pub more : List ValueOrError
  pub values : new.values ≡ old.values ++ more
  pub there : slice_get new.values h ≡ Some (value v)
  pub charge : new.charge ≡ old.charge

-- the value v is added; or an allocation failed
abbrev pub AddsTabled : Held → Held → Result ℕ AllocError → Value → Type 0
AddsTabled old new (Ok h) v = HasAdded old new h v
AddsTabled old new (Err e) v = ⊤
