-- The end of a call, and when its allocation may fail.
use Rattle.std.specs.Prelude.{◌≡◌, ◌&&◌, Bool, Result, Ok, Err}
use Rattle.std.specs.declared.alloc.AllocError.{AllocError}
use Rattle.value_store.specs.Placing.{Contents}
use Rattle.helper_table.specs.Outcome.{RowOutcome, CallEnd, Leaves, Halts, needs_room, is_left, answer_among, charged}
use Rattle.helper_table.specs.declared.helper_end.HelperEnd.{HelperEnd, TheVariants.Word, TheVariants.Stop}

-- an allocation may fail exactly if the row appends a value and the call is not stopped
abbrev pub takes_memory : RowOutcome → Contents → Bool
takes_memory o old = needs_room o && is_left (charged (answer_among old.values o) old.charge)

-- the result of a call is the one that is due, and so is the store after it; or an
-- allocation fails, and the store is unchanged
abbrev pub CallReturns : CallEnd → Result HelperEnd AllocError → Contents → Contents → Type 0
CallReturns due (Ok (Word word)) old new = due ≡ Leaves word new
CallReturns due (Ok (Stop f)) old new = (due ≡ Halts f) × (new ≡ old)
CallReturns due (Err e) old new = new ≡ old
