-- The bytes before the first plus.
use Rattle.std.proofs.Common.{◌≡◌, ℕ, ◌+◌, ◌<◌, ◌≤◌, ◌==◌, not, List, length, get_or, drop, true, false, ap}
use Rattle.std.proofs.lemmas.List.Sums.{prefix_len-drop_all, prefix_len-drop_no, prefix_len-drop_yes}
use Rattle.versions.specs.Identifiers.{plus_at}

pub plus_empty : (xs : List ℕ) (n : ℕ) → length xs ≤ n → plus_at (drop n xs) ≡ 0
plus_empty xs n h = prefix_len-drop_all (λ b. not (b == 43)) xs n h

pub plus_more : (xs : List ℕ) (n : ℕ) → n < length xs → (get_or xs n 0 == 43) ≡ false → plus_at (drop n xs) ≡ 1 + plus_at (drop (n + 1) xs)
plus_more xs n h e = prefix_len-drop_yes (λ b. not (b == 43)) xs n 0 h (ap not e)

pub plus_stop : (xs : List ℕ) (n : ℕ) → n < length xs → (get_or xs n 0 == 43) ≡ true → plus_at (drop n xs) ≡ 0
plus_stop xs n h e = prefix_len-drop_no (λ b. not (b == 43)) xs n 0 h (ap not e)
