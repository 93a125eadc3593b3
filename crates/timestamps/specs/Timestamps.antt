-- Timestamps (cel-go, `timestamp` of a text; RFC 3339, section 5.6, in upper case): a date, a time of day and an offset.
use Rattle.std.specs.Prelude.{ℕ, ◌+◌, ◌-◌, ◌*◌, ◌^◌, ℤ, pos, negsuc, neg_ℤ, ◌+ℤ◌, ◌-ℤ◌, ◌*ℤ◌, int_le, int_lt, ◌≤ℤ◌, ◌<ℤ◌}
use Rattle.std.specs.Prelude.{List, length, take, drop, slice_index, Bool, ◌&&◌, ◌==◌, nat_lt, Option, Some, None, option_and_then}
use Rattle.std.specs.Prelude.{if◌then◌else◌}
use Rattle.std.specs.Char.{is_ascii_digit}
use Rattle.text_numbers.specs.Numbers.{digits_len, number}
use Rattle.timestamps.specs.Calendar.{day_number, is_day}

infixl 10 ◌>>=◌
-- the function applied to the value, if there is one
abbrev pub ◌>>=◌ : {A B : Type 0} → Option A → (A → Option B) → Option B
o >>= f = option_and_then f o

-- x, if the test passes
abbrev pub when : {X : Type 0} → Bool → X → Option X
when test x = if test then Some x else None

-- whether a byte is at a place; a text has 0 after its end
abbrev pub has_at : List ℕ → ℕ → ℕ → Bool
has_at text at b = slice_index text at == b

-- the digit at a place, and the number of two digits from there on
abbrev pub digit_at : ℕ → List ℕ → Option ℕ
digit_at at text = when (is_ascii_digit (slice_index text at)) (slice_index text at - 48)

unfoldable pub pair_at : ℕ → List ℕ → Option ℕ
pair_at at text = do
  tens ← digit_at at text
  ones ← digit_at (at + 1) text
  Some (10 * tens + ones)

-- the number of a day, if it exists
abbrev pub existing : ℕ → ℕ → ℕ → Option ℕ
existing year month day = when (is_day year month day) (day_number year month day)

-- YYYY-MM-DD at the front (45 is a dash): the number of its day
unfoldable pub day_of : List ℕ → Option ℕ
day_of text = do
  century ← pair_at 0 text
  year ← pair_at 2 text
  month ← pair_at 5 text
  day ← pair_at 8 text
  if has_at text 4 45 && has_at text 7 45 then existing (100 * century + year) month day else None

-- hh:mm from a place on, as minutes (58 is a colon)
unfoldable pub minutes_at : ℕ → List ℕ → Option ℕ
minutes_at at text = do
  hour ← pair_at at text
  minute ← pair_at (at + 3) text
  when (has_at text (at + 2) 58 && (nat_lt hour 24 && nat_lt minute 60)) (60 * hour + minute)

-- T (84) and hh:mm:ss after the date, as seconds
unfoldable pub seconds_of : List ℕ → Option ℕ
seconds_of text = do
  minutes ← minutes_at 11 text
  second ← pair_at 17 text
  when ((has_at text 10 84 && has_at text 16 58) && nat_lt second 60) (60 * minutes + second)

-- the nanoseconds of the digits of a fraction; digits beyond nine are cut
abbrev pub nanos_of : List ℕ → ℕ
nanos_of digits = number (take 9 digits) * 10 ^ (9 - length digits)

-- digits, at least one: their nanoseconds, and what follows
abbrev pub digits_of : List ℕ → Option (ℕ × List ℕ)
digits_of text = when (nat_lt 0 (digits_len text)) (nanos_of (take (digits_len text) text), drop (digits_len text) text)

-- a point (46) and digits, or neither
unfoldable pub fraction_of : List ℕ → Option (ℕ × List ℕ)
fraction_of text = if has_at text 0 46 then digits_of (drop 1 text) else Some (0, text)

-- the seconds of minutes with this sign (43 is a plus, 45 a minus)
abbrev pub signed : ℕ → ℕ → Option ℤ
signed sign minutes =
    if sign == 43 then Some (pos (60 * minutes)) else (if sign == 45 then Some (neg_ℤ (pos (60 * minutes))) else None)

-- Z (90), or a sign and hh:mm, and nothing more: the offset in seconds
unfoldable pub offset_of : List ℕ → Option ℤ
offset_of text =
    if has_at text 0 90 then when (length text == 1) (pos 0)
    else (if length text == 6 then (minutes_at 1 text >>= signed (slice_index text 0)) else None)

-- nanoseconds since the start of 1970: those of years 1 to 9999
abbrev pub first : ℤ
first = negsuc 62135596799999999999

abbrev pub end : ℤ
end = pos 253402300800000000000

abbrev pub IsTimestamp : ℤ → Type 0
IsTimestamp z = (first ≤ℤ z) × (z <ℤ end)

abbrev pub within : ℤ → Option ℤ
within z = when (int_le first z && int_lt z end) z

-- the nanoseconds since 1970 of a second from the start of year 0 in a place with an offset, and nanoseconds after it
abbrev pub since_1970 : ℕ → ℤ → ℕ → ℤ
since_1970 seconds offset nanos = ((pos seconds -ℤ offset) -ℤ pos 62167219200) *ℤ pos 1000000000 +ℤ pos nanos

-- `timestamp(text)`: nanoseconds since 1970
unfoldable pub timestamp_of : List ℕ → Option ℤ
timestamp_of text = do
  day ← day_of text
  seconds ← seconds_of text
  fraction ← fraction_of (drop 19 text)
  offset ← offset_of fraction.1
  within (since_1970 (86400 * day + seconds) offset fraction.0)
