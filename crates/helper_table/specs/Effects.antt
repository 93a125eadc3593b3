-- The effect of a call in the code: its meaning as the outcome of a row, and how it is carried out.
use Rattle.std.specs.Prelude.{◌≡◌, ℕ, List, Option, Some, None, Result, Ok, Err, IsSome, slice_get, option_map}
use Rattle.std.specs.Fmt.{signed_decimal}
use Rattle.std.specs.declared.alloc.AllocError.{AllocError}
use Rattle.guest_memory.specs.declared.fault.Fault.{Fault, TheVariants.F6}
use Rattle.value_store.specs.Calls.{Places, part_at, key_at, joined, pushed, put_in}
use Rattle.value_store.specs.Seen.{outcome_view, shape_view}
use Rattle.value_store.specs.declared.shape.Shape.{Shape}
use Rattle.value_store.specs.Value.{Value, int, text, list, map, no_items, no_entries, ValueOrError}
use Rattle.helper_table.specs.Outcome.{RowOutcome, Plain, Named, Refused, named}
use Rattle.helper_table.specs.declared.placement.Placement.{Placement}
use Rattle.helper_table.specs.declared.placement.Placement.TheVariants as placement
use Rattle.helper_table.specs.declared.helper_effect.HelperEffect.{HelperEffect}

-- the outline of an operand, or F6 if its reference is invalid
abbrev pub Sees : Result Shape Fault → Option ValueOrError → Type 0
Sees (Ok shape) o = option_map outcome_view o ≡ Some (shape_view shape)
Sees (Err f) o = (f ≡ F6) × (o ≡ None)

-- the value of a placement among these values
abbrev pub value_by : List ValueOrError → Placement → Option Value
value_by vs (placement.Word w) = None
value_by vs (placement.Int n) = Some (int n)
value_by vs (placement.Text s) = Some (text s.now)
value_by vs (placement.Decimal n) = Some (text (signed_decimal n))
value_by vs (placement.Part h i) = part_at (slice_get vs h) i
value_by vs (placement.Key h i) = key_at (slice_get vs h) i
value_by vs (placement.Join a b) = joined (slice_get vs a) (slice_get vs b)
value_by vs placement.List = Some (list no_items)
value_by vs placement.Map = Some (map no_entries)
value_by vs (placement.Push l x) = pushed (slice_get vs l) (slice_get vs x)
value_by vs (placement.Put m k x) = put_in (slice_get vs m) (slice_get vs k) (slice_get vs x)

-- the outcome of a placement, with what it adds to the charge
abbrev pub outcome_by : List ValueOrError → Placement → ℕ → RowOutcome
outcome_by vs (placement.Word w) added = Plain w added
outcome_by vs a added = named (value_by vs a) added

-- the outcome of an effect or a fault
abbrev pub means : List ValueOrError → Result HelperEffect Fault → RowOutcome
means vs (Ok effect) = outcome_by vs effect.placement effect.added
means vs (Err f) = Refused f

-- the value of the placement exists
abbrev pub CanDo : List ValueOrError → Placement → Type 0
CanDo vs (placement.Word w) = Unit {0}
CanDo vs a = IsSome (value_by vs a)

-- the value of the effect's placement exists
abbrev pub CanFollow : List ValueOrError → Result HelperEffect Fault → Type 0
CanFollow vs (Ok effect) = CanDo vs effect.placement
CanFollow vs (Err f) = Unit {0}

-- the word is returned, or the value placed; a plain word allocates nothing
abbrev pub TakesEffect : RowOutcome → Result ℕ AllocError → List ValueOrError → List ValueOrError → Type 0
TakesEffect (Plain w added) (Ok word) old new = (word ≡ w) × (new ≡ old)
TakesEffect (Plain w added) (Err e) old new = ⊥
TakesEffect (Named v added) r old new = Places old v r new
TakesEffect (Refused f) r old new = Unit {0}
