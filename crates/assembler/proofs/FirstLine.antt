-- Text is split at its line feeds.
use Rattle.assembler.proofs.Prelude.{◌≡◌, ℕ, suc, ◌+◌, ◌<◌, List, [], ◌∷◌, refl, sym, ◌∙◌, ap, arith, length, take, drop, false, ◌==◌, Bool, position_or_len, before_first, after_first, lines_of, before_line}
use Rattle.assembler.proofs.Ends.{either}

abbrev is_feed : ℕ → Bool
is_feed b = b == 10

-- the end of the first line
abbrev end_of : List ℕ → ℕ
end_of xs = position_or_len is_feed xs

take_more : (n x : ℕ) (xs : List ℕ) → take (1 + n) (x ∷ xs) ≡ x ∷ take n xs
take_more n x xs = let e : 1 + n ≡ suc n = omega arith in rw e refl

drop_more : (n x : ℕ) (xs : List ℕ) → drop (1 + n + 1) (x ∷ xs) ≡ drop (n + 1) xs
drop_more n x xs = let e : 1 + n + 1 ≡ suc (n + 1) = omega arith in rw e refl

-- a text with a line feed is its first line, followed by the lines after that line feed
ends : (xs : List ℕ) → end_of xs < length xs → lines_of xs ≡ before_first is_feed xs ∷ lines_of (after_first is_feed xs)
ends [] inside = absurd (omega arith)
ends (x ∷ xs) inside = either (x == 10)
    (λ is. rw is refl)
    (λ is. let inside_rest = rw is at inside in
    rw is (ap (before_line x) (ends xs (omega (arith, inside_rest)))
    ∙ ap (λ line. line ∷ lines_of (after_first is_feed xs)) (sym (take_more (end_of xs) x xs))
    ∙ ap (λ rest. take (1 + end_of xs) (x ∷ xs) ∷ lines_of rest) (sym (drop_more (end_of xs) x xs))))

-- the first line and the rest, as the code finds them
pub first_line : (text line rest : List ℕ) → end_of text < length text → line ≡ before_first is_feed text → rest ≡ after_first is_feed text → lines_of text ≡ line ∷ lines_of rest
first_line text line rest inside l r = ends text inside ∙ ap (λ x. x ∷ lines_of (after_first is_feed text)) (sym l) ∙ ap (λ x. line ∷ lines_of x) (sym r)

no_feed : (x : ℕ) (xs : List ℕ) → end_of (x ∷ xs) ≡ length (x ∷ xs) → ((x == 10) ≡ false) × (end_of xs ≡ length xs)
no_feed x xs h = grind arith

last : (x : ℕ) (xs : List ℕ) → end_of (x ∷ xs) ≡ length (x ∷ xs) → lines_of (x ∷ xs) ≡ (x ∷ xs) ∷ []
last x [] h = rw (no_feed x [] h).0 refl
last x (y ∷ ys) h = rw (no_feed x (y ∷ ys) h).0 (ap (before_line x) (last y ys (no_feed x (y ∷ ys) h).1))

-- a text without a line feed is one line, if it is not empty
pub last_line : (text : List ℕ) → end_of text ≡ length text → false ≡ (length text == 0) → lines_of text ≡ text ∷ []
last_line [] h full = absurd cc
last_line (x ∷ xs) h full = last x xs h
