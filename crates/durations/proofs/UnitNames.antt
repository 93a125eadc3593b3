-- The name of a unit at the front.
use Rattle.std.proofs.Common.{◌≡◌, ℕ, ◌+◌, ◌<◌, ◌≤◌, List, length, get_or, drop, true, false}
use Rattle.std.proofs.lemmas.List.Sums.{prefix_len-drop_all, prefix_len-drop_no, prefix_len-drop_yes}
use Rattle.durations.specs.Durations.{is_unit_byte, unit_len}

pub unit_empty : (xs : List ℕ) (n : ℕ) → length xs ≤ n → unit_len (drop n xs) ≡ 0
unit_empty xs n h = prefix_len-drop_all is_unit_byte xs n h

pub unit_more : (xs : List ℕ) (n : ℕ) → n < length xs → is_unit_byte (get_or xs n 0) ≡ true → unit_len (drop n xs) ≡ 1 + unit_len (drop (n + 1) xs)
unit_more xs n h e = prefix_len-drop_yes is_unit_byte xs n 0 h e

pub unit_stop : (xs : List ℕ) (n : ℕ) → n < length xs → is_unit_byte (get_or xs n 0) ≡ false → unit_len (drop n xs) ≡ 0
unit_stop xs n h e = prefix_len-drop_no is_unit_byte xs n 0 h e
