-- Numbers with a point, at the front of a text.
use Rattle.std.specs.Prelude.{◌≡◌, true, ℕ, suc, ◌+◌, ◌-◌, ◌*◌, ◌^◌, ◌<◌, List, [], ◌∷◌, length, take, drop, ◌==◌, if◌then◌else◌}
use Rattle.std.specs.Char.{is_ascii_digit}
use Rattle.std.specs.List.{list_all, prefix_len}
use Rattle.text_numbers.specs.declared.number.Number.{Number}

-- the number that decimal digits denote, after digits that denote n
unfoldable pub number_after : ℕ → List ℕ → ℕ
number_after n [] = n
number_after n (d ∷ digits) = number_after (n * 10 + (d - 48)) digits

-- the number that decimal digits denote, the most significant first
abbrev pub number : List ℕ → ℕ
number digits = number_after 0 digits

-- the number of decimal digits at the front
abbrev pub digits_len : List ℕ → ℕ
digits_len text = prefix_len is_ascii_digit text

-- the number of bytes of a point (46) and the digits after it, or 0
abbrev pub fraction_len : List ℕ → ℕ
fraction_len [] = 0
fraction_len (b ∷ text) = if b == 46 then suc (digits_len text) else 0

-- digits before and after a point, and the text that follows
pub record Written : Type 0 where
  pub whole : List ℕ
  pub fraction : List ℕ
  pub rest : List ℕ

-- the text after whole digits, with a fraction at its front
abbrev pub written_after : List ℕ → List ℕ → Written
written_after whole text = record {
  whole = whole;
  fraction = drop 1 (take (fraction_len text) text);
  rest = drop (fraction_len text) text;
}

-- the number at the front of a text
abbrev pub written : List ℕ → Written
written text = written_after (take (digits_len text) text) (drop (digits_len text) text)

-- the parts of a number
abbrev pub number_view : Number → Written
number_view n = record { whole = n.whole.now; fraction = n.fraction.now; rest = n.rest.now }

-- each byte is a decimal digit
abbrev pub AreAllDigits : List ℕ → Type 0
AreAllDigits digits = list_all is_ascii_digit digits ≡ true

-- the digits after a point denote less than 1
abbrev pub IsFraction : List ℕ → Type 0
IsFraction digits = number digits < 10 ^ length digits
