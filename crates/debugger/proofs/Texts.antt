-- Texts that are built piece by piece.
use Rattle.debugger.proofs.Prelude.{◌≡◌, ℕ, ◌+◌, ◌-◌, ◌/◌, ◌%◌, ◌<◌, [], ◌∷◌, ◌++◌, append_assoc, append-nil, arith, slice_index, State, hex_digits, hex_digit, register_line, register_lines}

pub hex_none : (w : ℕ) → hex_digits 0 w ≡ []
unfolding hex_digits
hex_none w = grind arith

pub hex_more : (k w : ℕ) → 0 < k → hex_digits k w ≡ hex_digits (k - 1) (w / 16) ++ hex_digit (w % 16) ∷ []
unfolding hex_digits
hex_more k w some = grind arith

-- the digits of a word, one after another
pub ruleset hex = (hex_none, hex_more, append_assoc, append-nil)

pub registers_none : (s : State) → register_lines 0 s ≡ []
unfolding register_lines
registers_none s = grind arith

pub registers_more : (s : State) (n : ℕ) → register_lines (n + 1) s ≡ register_lines n s ++ register_line n (slice_index s.registers n)
unfolding register_lines
registers_more s n = grind arith

-- the lines of the registers, one after another
pub ruleset registers = (registers_none, registers_more)
