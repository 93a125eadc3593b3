-- A call: the row of its helper on its operands, after the checks of its number and its arguments.
use Rattle.std.specs.Prelude.{ℕ, ℤ, List, Option, Some, None, slice_get, slice_index}
use Rattle.guest_memory.specs.Access.{constants_of}
use Rattle.guest_memory.specs.Memory.{start_memory}
use Rattle.guest_memory.specs.declared.fault.Fault.TheVariants.{F3, F5, F6}
use Rattle.value_store.specs.Placing.{Contents}
use Rattle.value_store.specs.Value.{ValueOrError}
use Rattle.helper_table.specs.Building.{join_row, list_new_row, map_new_row, push_row, put_row}
use Rattle.helper_table.specs.Comparisons.{equal_row, less_row, member_row, starts_row, ends_row, contains_row}
use Rattle.helper_table.specs.Conversions.{kind_row, int_of_row, int_new_row, text_const_row, text_of_int_row, not_row}
use Rattle.helper_table.specs.Lookups.{field_row, has_row, index_row, size_row, item_row, count_row}
use Rattle.helper_table.specs.Numbers.{of_number}
use Rattle.helper_table.specs.Outcome.{RowOutcome, Refused, HelperAnswer, answer_among, CallEnd, charged}
use Rattle.helper_table.specs.declared.helper.Helper.{Helper}
use Rattle.helper_table.specs.declared.helper.Helper.TheVariants as helper

-- the first argument of a call: the word in R1; the arguments are those in R1 to R5
abbrev pub r1 : List ℕ → ℕ
r1 args = slice_index args 0

-- the second argument
abbrev pub r2 : List ℕ → ℕ
r2 args = slice_index args 1

-- the third argument
abbrev pub r3 : List ℕ → ℕ
r3 args = slice_index args 2

-- a row on an operand; F6 if the reference is invalid
abbrev pub on_operand : Option ValueOrError → (ValueOrError → RowOutcome) → RowOutcome
on_operand (Some x) row = row x
on_operand None row = Refused F6

-- a row on the value at a reference, an index into the list of values
abbrev pub on_value : List ValueOrError → ℕ → (ValueOrError → RowOutcome) → RowOutcome
on_value vs h row = on_operand (slice_get vs h) row

-- a row on the values at two references; the first is checked first
abbrev pub on_values : List ValueOrError → ℕ → ℕ → (ValueOrError → ValueOrError → RowOutcome) → RowOutcome
on_values vs a b row = on_value vs a (λ x. on_value vs b (row x))

-- the n bytes of the constants at an address, if all are in the constants
abbrev pub bytes_at : List ℕ → ℕ → ℕ → Option (List ℕ)
bytes_at constants address n = constants_of (start_memory constants) address n

-- a row on bytes of the constants; F3 if some are outside
abbrev pub on_lent : Option (List ℕ) → (List ℕ → RowOutcome) → RowOutcome
on_lent (Some bytes) row = row bytes
on_lent None row = Refused F3

-- a row on the n bytes of the constants at an address
abbrev pub on_range : List ℕ → ℕ → ℕ → (List ℕ → RowOutcome) → RowOutcome
on_range constants address n row = on_lent (bytes_at constants address n) row

-- the row of each helper on its operands; references are checked before ranges
unfoldable pub row_of : Helper → List ℕ → List ValueOrError → List ℕ → RowOutcome
row_of helper.Kind args vs constants = on_value vs (r1 args) kind_row
row_of helper.IntOf args vs constants = on_value vs (r1 args) int_of_row
row_of helper.IntNew args vs constants = int_new_row (r1 args)
row_of helper.TextConst args vs constants = on_range constants (r1 args) (r2 args) text_const_row
row_of helper.Field args vs constants = on_value vs (r1 args) (λ m. on_range constants (r2 args) (r3 args) (field_row m))
row_of helper.Has args vs constants = on_value vs (r1 args) (λ m. on_range constants (r2 args) (r3 args) (has_row m))
row_of helper.Index args vs constants = on_values vs (r1 args) (r2 args) index_row
row_of helper.Size args vs constants = on_value vs (r1 args) size_row
row_of helper.Equal args vs constants = on_values vs (r1 args) (r2 args) equal_row
row_of helper.Less args vs constants = on_values vs (r1 args) (r2 args) less_row
row_of helper.Join args vs constants = on_values vs (r1 args) (r2 args) join_row
row_of helper.Starts args vs constants = on_values vs (r1 args) (r2 args) starts_row
row_of helper.Ends args vs constants = on_values vs (r1 args) (r2 args) ends_row
row_of helper.Contains args vs constants = on_values vs (r1 args) (r2 args) contains_row
row_of helper.Member args vs constants = on_values vs (r1 args) (r2 args) member_row
row_of helper.ListNew args vs constants = list_new_row
row_of helper.Push args vs constants = on_values vs (r1 args) (r2 args) push_row
row_of helper.MapNew args vs constants = map_new_row
row_of helper.Put args vs constants = on_value vs (r1 args) (λ m. on_values vs (r2 args) (r3 args) (put_row m))
row_of helper.Item args vs constants = on_value vs (r1 args) (λ x. item_row x (r2 args))
row_of helper.Count args vs constants = on_value vs (r1 args) count_row
row_of helper.TextOfInt args vs constants = on_value vs (r1 args) text_of_int_row
row_of helper.Not args vs constants = on_value vs (r1 args) not_row

-- the row of a helper; F5 if the number is unknown
abbrev pub row_numbered : Option Helper → List ℕ → List ValueOrError → List ℕ → RowOutcome
row_numbered (Some h) args vs constants = row_of h args vs constants
row_numbered None args vs constants = Refused F5

-- the outcome of helper `id` for these arguments
abbrev pub outcome_of : ℤ → List ℕ → List ValueOrError → List ℕ → RowOutcome
outcome_of id args vs constants = row_numbered (of_number id) args vs constants

-- the result of the helper among these values
abbrev pub helper_row : ℤ → List ℕ → List ValueOrError → List ℕ → HelperAnswer
helper_row id args vs constants = answer_among vs (outcome_of id args vs constants)

-- the end of a call: its word and the contents after it, or the fault
abbrev pub call_end : ℤ → List ℕ → Contents → List ℕ → CallEnd
call_end id args old constants = charged (helper_row id args old.values constants) old.charge
