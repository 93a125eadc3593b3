-- The identifiers between dots.
use Rattle.std.proofs.Common.{◌≡◌, ◌∷◌, ℕ, suc, ◌+◌, ◌<◌, ◌≤◌, ◌==◌, not, Bool, List, [], length, get_or, take, drop, true, false, cond, ap}
use Rattle.std.proofs.Common.{Option, Some, None, arith, length-drop, refl, subst}
use Rattle.std.proofs.lemmas.List.Sums.{prefix_len-drop_all, prefix_len-drop_no, prefix_len-drop_yes}
use Rattle.std.specs.List.{onto_first}
use Rattle.versions.specs.Identifiers.{after_first, first, first_len, identifiers, tail}

pub dot_empty : (xs : List ℕ) (n : ℕ) → length xs ≤ n → first_len (drop n xs) ≡ 0
dot_empty xs n h = prefix_len-drop_all (λ b. not (b == 46)) xs n h

pub dot_more : (xs : List ℕ) (n : ℕ) → n < length xs → (get_or xs n 0 == 46) ≡ false → first_len (drop n xs) ≡ 1 + first_len (drop (n + 1) xs)
dot_more xs n h e = prefix_len-drop_yes (λ b. not (b == 46)) xs n 0 h (ap not e)

pub dot_stop : (xs : List ℕ) (n : ℕ) → n < length xs → (get_or xs n 0 == 46) ≡ true → first_len (drop n xs) ≡ 0
dot_stop xs n h e = prefix_len-drop_no (λ b. not (b == 46)) xs n 0 h (ap not e)

-- the identifiers of what follows
abbrev pub others : Option (List ℕ) → List (List ℕ)
others None = []
others (Some text) = identifiers text

split_by : (x : ℕ) (xs : List ℕ) (t : Bool) → identifiers xs ≡ first xs ∷ others (after_first xs)
    → cond t ([] ∷ identifiers xs) (onto_first x (identifiers xs))
    ≡ take (cond (not t) (1 + first_len xs) 0) (x ∷ xs) ∷ others (tail (drop (cond (not t) (1 + first_len xs) 0) (x ∷ xs)))
split_by x xs true h = refl
split_by x xs false h = let q : 1 + first_len xs ≡ suc (first_len xs) = omega arith in rw (q, h) refl

-- the identifiers of a text are the first, and those of what follows its dot
pub split_is : (xs : List ℕ) → identifiers xs ≡ first xs ∷ others (after_first xs)
split_is [] = refl
split_is (x ∷ xs) = split_by x xs (x == 46) (split_is xs)

tail_shorter : (xs ys : List ℕ) → tail xs ≡ Some ys → length ys < length xs
tail_shorter [] ys h = let no : None ≡ Some ys = h in cc
tail_shorter (x ∷ xs) ys h = let e : Some xs ≡ Some ys = h in let f : xs ≡ ys = cc in subst (λ zs. length zs < length (x ∷ xs)) f (omega arith)

pub after_shorter : (xs ys : List ℕ) → after_first xs ≡ Some ys → length ys < length xs
after_shorter xs ys h = omega (arith, tail_shorter (drop (first_len xs) xs) ys h, length-drop (first_len xs) xs)
