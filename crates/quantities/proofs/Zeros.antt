-- Zeros at the front.
use Rattle.std.proofs.Common.{◌≡◌, ℕ, ◌+◌, ◌<◌, ◌≤◌, ◌==◌, List, length, get_or, drop, true, false}
use Rattle.std.proofs.lemmas.List.Sums.{prefix_len-drop_all, prefix_len-drop_no, prefix_len-drop_yes}
use Rattle.std.specs.List.{prefix_len}

pub zeros_empty : (xs : List ℕ) (n : ℕ) → length xs ≤ n → prefix_len (λ b. b == 48) (drop n xs) ≡ 0
zeros_empty xs n h = prefix_len-drop_all (λ b. b == 48) xs n h

pub zeros_more : (xs : List ℕ) (n : ℕ) → n < length xs → (get_or xs n 0 == 48) ≡ true → prefix_len (λ b. b == 48) (drop n xs) ≡ 1 + prefix_len (λ b. b == 48) (drop (n + 1) xs)
zeros_more xs n h e = prefix_len-drop_yes (λ b. b == 48) xs n 0 h e

pub zeros_stop : (xs : List ℕ) (n : ℕ) → n < length xs → (get_or xs n 0 == 48) ≡ false → prefix_len (λ b. b == 48) (drop n xs) ≡ 0
zeros_stop xs n h e = prefix_len-drop_no (λ b. b == 48) xs n 0 h e
