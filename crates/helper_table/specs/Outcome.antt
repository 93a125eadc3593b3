-- The outcome of a row, and the result of its call.
use Rattle.std.specs.Prelude.{ℕ, ◌+◌, Bool, true, false, List, Option, Some, None, nat_le, if◌then◌else◌}
use Rattle.guest_memory.specs.declared.fault.Fault as fault
use Rattle.guest_memory.specs.declared.fault.Fault.TheVariants.{F8}
use Rattle.value_store.specs.Placing.{Contents, charge_limit, is_appended, place, placed}
use Rattle.value_store.specs.Value.{Value, ValueOrError}

-- the outcome of a row: a word, or a value whose reference is the word, with what is added to the charge of 1
-- that each call has; or the fault that stops the call
pub data RowOutcome : Type 0 where
  Plain : (word added : ℕ) → RowOutcome
  Named : Value → (added : ℕ) → RowOutcome
  Refused : fault.Fault → RowOutcome

-- the reference of a bool, or of the error if there is none
abbrev pub truth_word : Option Bool → ℕ
truth_word (Some false) = 2
truth_word (Some true) = 3
truth_word None = 0

-- a bool, or the error, with nothing added to the charge
abbrev pub truth : Option Bool → RowOutcome
truth b = Plain (truth_word b) 0

-- a value, or the error if there is none
abbrev pub named : Option Value → ℕ → RowOutcome
named (Some v) added = Named v added
named None added = Plain 0 added

-- a value that was looked up, or the error, with nothing added to the charge
abbrev pub found : Option Value → RowOutcome
found v = named v 0

-- the result of a call: a word with the values after it and its cost, or the fault that stops it
pub data HelperAnswer : Type 0 where
  Gives : (word : ℕ) (values : List ValueOrError) (cost : ℕ) → HelperAnswer
  Stops : fault.Fault → HelperAnswer

-- the result of a row among the values of a store, at a cost of 1 and what it adds; its value is placed there
abbrev pub answer_among : List ValueOrError → RowOutcome → HelperAnswer
answer_among vs (Plain word added) = Gives word vs (1 + added)
answer_among vs (Named v added) = Gives (place vs v) (placed vs v) (1 + added)
answer_among vs (Refused f) = Stops f

-- the end of a call
pub data CallEnd : Type 0 where
  Leaves : (word : ℕ) → Contents → CallEnd
  Halts : fault.Fault → CallEnd

-- the cost is charged, within the limit; F8 above it
abbrev pub charged : HelperAnswer → ℕ → CallEnd
charged (Gives word vs cost) charge =
    if nat_le (charge + cost) charge_limit then Leaves word (record { values = vs; charge = charge + cost })
    else Halts F8
charged (Stops f) charge = Halts f

-- whether the outcome is a value to be placed
abbrev pub is_named : RowOutcome → Bool
is_named (Named v added) = true
is_named (Plain word added) = false
is_named (Refused f) = false

-- whether the outcome is a value that is appended, and so allocates; null, false and true are there already
abbrev pub needs_room : RowOutcome → Bool
needs_room (Named v added) = is_appended v
needs_room (Plain word added) = false
needs_room (Refused f) = false

-- whether the call was not stopped
abbrev pub is_left : CallEnd → Bool
is_left (Leaves word contents) = true
is_left (Halts f) = false
