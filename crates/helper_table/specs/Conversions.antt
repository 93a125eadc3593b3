-- The rows for the kind of a value, and for conversions between words, texts and bools.
use Rattle.std.specs.Prelude.{ℕ, ℤ, not, List, length, Option, Some, None, option_map, if◌then◌else◌}
use Rattle.std.specs.Fmt.{signed_decimal}
use Rattle.std.specs.Int.{w64, cast_signed, cast_unsigned}
use Rattle.std.specs.Str.{is_utf8}
use Rattle.value_store.specs.Seen.{Seen, sees_error, sees_null, sees_bool, sees_int, sees_text, sees_list, sees_map, outcome_view}
use Rattle.value_store.specs.Value.{int, text, ValueOrError}
use Rattle.helper_table.specs.Operands.{int_part, truth_part}
use Rattle.helper_table.specs.Outcome.{RowOutcome, Plain, Named, truth}

-- the number of each kind
abbrev pub kind_number : Seen → ℕ
kind_number sees_error = 0
kind_number sees_null = 1
kind_number (sees_bool b) = 2
kind_number (sees_int z) = 3
kind_number (sees_text s) = 4
kind_number (sees_list n) = 5
kind_number (sees_map n) = 6

-- the kind of the value at a reference, as a number
unfoldable pub kind_row : ValueOrError → RowOutcome
kind_row x = Plain (kind_number (outcome_view x)) 0

-- an int as a word, modulo 2 ^ 64; 0 if there is none
abbrev pub int_word : Option ℤ → ℕ
int_word (Some z) = cast_unsigned w64 z
int_word None = 0

-- the int as a word, modulo 2 ^ 64
unfoldable pub int_of_row : ValueOrError → RowOutcome
int_of_row x = Plain (int_word (int_part (outcome_view x))) 0

-- the word as an int, read as signed
unfoldable pub int_new_row : ℕ → RowOutcome
int_new_row word = Named (int (cast_signed w64 word)) 0

-- the bytes as a text, if they are UTF-8, with each byte charged
unfoldable pub text_const_row : List ℕ → RowOutcome
text_const_row bytes = if is_utf8 bytes then Named (text bytes) (length bytes) else Plain 0 0

-- an int's decimal text with each byte charged; the error if there is no int
abbrev pub decimal_of : Option ℤ → RowOutcome
decimal_of (Some z) = Named (text (signed_decimal z)) (length (signed_decimal z))
decimal_of None = Plain 0 0

-- an int's decimal text with each byte charged
unfoldable pub text_of_int_row : ValueOrError → RowOutcome
text_of_int_row x = decimal_of (int_part (outcome_view x))

-- the negation of a bool
unfoldable pub not_row : ValueOrError → RowOutcome
not_row x = truth (option_map not (truth_part (outcome_view x)))
