-- Characters in UTF-8, counted and ordered by their bytes.
use Rattle.text_kernels.proofs.Prelude.{◌≡◌, ℕ, ◌+◌, ◌/◌, ◌%◌, ◌<◌, ◌≤◌, Bool, true, false, cond, List, [], ◌∷◌, ◌++◌, length, ◌⊎◌, inl, inr, refl, ap, ap₂, sym, ◌∙◌, arith, Ordering, Less, Equal, Greater, nat_cmp, encode_utf8, encode_utf8_all, nat_lt, slice_cmp, nat_cmp_is, ranks, MatchOrdering, ordering_then, nat_tests, sum_by-cons, is_leading, code_points_of}
use lib.Utf8.{encode, next}

-- a number of one, two, three or four bytes, with its bytes
data Encoded (c : ℕ) : Type 0 where
  one : c < 128 → encode_utf8 c ≡ c ∷ [] → Encoded c
  two : 128 ≤ c → c < 2048 → encode_utf8 c ≡ (192 + c / 64) ∷ next c ∷ [] → Encoded c
  three : 2048 ≤ c → c < 65536 → encode_utf8 c ≡ (224 + c / 4096) ∷ next (c / 64) ∷ next c ∷ [] → Encoded c
  four : 65536 ≤ c → encode_utf8 c ≡ (240 + c / 262144) ∷ next (c / 4096) ∷ next (c / 64) ∷ next c ∷ [] → Encoded c

bytes_by : (c : ℕ) (a b d : Bool) → nat_lt c 128 ≡ a → nat_lt c 2048 ≡ b → nat_lt c 65536 ≡ d
    → encode_utf8 c
    ≡ cond a (c ∷ [])
    (cond b ((192 + c / 64) ∷ next c ∷ []) (cond d ((224 + c / 4096) ∷ next (c / 64) ∷ next c ∷ []) ((240 + c / 262144) ∷ next (c / 4096) ∷ next (c / 64) ∷ next c ∷ [])))
unfolding encode
bytes_by c a b d e f g =
    λ i. cond (e i) (c ∷ [])
    (cond (f i) ((192 + c / 64) ∷ next c ∷ []) (cond (g i) ((224 + c / 4096) ∷ next (c / 64) ∷ next c ∷ []) ((240 + c / 262144) ∷ next (c / 4096) ∷ next (c / 64) ∷ next c ∷ [])))

encoded_by : (c : ℕ) (a b d : Bool) → nat_lt c 128 ≡ a → nat_lt c 2048 ≡ b → nat_lt c 65536 ≡ d → Encoded c
encoded_by c true b d e f g = one (grind (arith, nat_tests)) (bytes_by c true b d e f g)
encoded_by c false true d e f g = two (grind (arith, nat_tests)) (grind (arith, nat_tests)) (bytes_by c false true d e f g)
encoded_by c false false true e f g = three (grind (arith, nat_tests)) (grind (arith, nat_tests)) (bytes_by c false false true e f g)
encoded_by c false false false e f g = four (grind (arith, nat_tests)) (bytes_by c false false false e f g)

encoded : (c : ℕ) → Encoded c
encoded c = encoded_by c _ _ _ refl refl refl

leads : (b : ℕ) → (b < 128) ⊎ (192 ≤ b) → is_leading b ≡ true
leads b (inl h) = grind (arith, nat_tests)
leads b (inr h) = grind (arith, nat_tests)

goes_on : (n : ℕ) → is_leading (next n) ≡ false
goes_on n = grind (arith, nat_tests)

-- exactly one byte of a character leads
counted : (c : ℕ) (more : List ℕ) → code_points_of (encode_utf8 c ++ more) ≡ 1 + code_points_of more
counted c more = by (encoded c)
  where
    first : (b : ℕ) (bytes : List ℕ) → (b < 128) ⊎ (192 ≤ b) → code_points_of (b ∷ bytes) ≡ 1 + code_points_of bytes
    first b bytes h = sum_by-cons (λ x. cond (is_leading x) 1 0) b bytes ∙ ap (λ t. cond t 1 0 + code_points_of bytes) (leads b h)

    passed : (n : ℕ) (bytes : List ℕ) → code_points_of (next n ∷ bytes) ≡ code_points_of bytes
    passed n bytes = sum_by-cons (λ x. cond (is_leading x) 1 0) (next n) bytes ∙ (ap (λ t. cond t 1 0 + code_points_of bytes) (goes_on n) ∙ omega arith)

    by : Encoded c → code_points_of (encode_utf8 c ++ more) ≡ 1 + code_points_of more
    by (one h e) = ap (λ bs. code_points_of (bs ++ more)) e ∙ first c more (inl h)
    by (two l h e) = ap (λ bs. code_points_of (bs ++ more)) e ∙ (first (192 + c / 64) (next c ∷ more) (inr (omega arith)) ∙ ap (λ n. 1 + n) (passed c more))
    by (three l h e) = ap (λ bs. code_points_of (bs ++ more)) e ∙
        (first (224 + c / 4096) (next (c / 64) ∷ next c ∷ more) (inr (omega arith)) ∙ ap (λ n. 1 + n) (passed (c / 64) (next c ∷ more) ∙ passed c more))
    by (four l e) = ap (λ bs. code_points_of (bs ++ more)) e ∙
        (first (240 + c / 262144) (next (c / 4096) ∷ next (c / 64) ∷ next c ∷ more) (inr (omega arith)) ∙ ap (λ n. 1 + n) (passed (c / 4096) (next (c / 64) ∷ next c ∷ more) ∙ (passed (c / 64) (next c ∷ more) ∙ passed c more)))

pub count : (characters : List ℕ) → code_points_of (encode_utf8_all characters) ≡ length characters
count [] = refl
count (c ∷ more) = counted c (encode_utf8_all more) ∙ (ap (λ n. 1 + n) (count more) ∙ omega arith)

-- the order of two numbers, from the order of their quotients by 64, then of their remainders
digits_by : (x y : ℕ) (r s : Ordering) → MatchOrdering r (x / 64 < y / 64) (x / 64 ≡ y / 64) (y / 64 < x / 64)
    → MatchOrdering s (x % 64 < y % 64) (x % 64 ≡ y % 64) (y % 64 < x % 64) → ordering_then r s ≡ nat_cmp x y
digits_by x y Less s h k = nat_cmp_is x y Less (omega (arith, h))
digits_by x y Greater s h k = nat_cmp_is x y Greater (omega (arith, h))
digits_by x y Equal Less h k = nat_cmp_is x y Less (omega (arith, h, k))
digits_by x y Equal Equal h k = nat_cmp_is x y Equal (omega (arith, h, k))
digits_by x y Equal Greater h k = nat_cmp_is x y Greater (omega (arith, h, k))

digits : (x y : ℕ) → ordering_then (nat_cmp (x / 64) (y / 64)) (nat_cmp (x % 64) (y % 64)) ≡ nat_cmp x y
digits x y = digits_by x y _ _ (ranks (x / 64) (y / 64)) (ranks (x % 64) (y % 64))

shifted_by : (n x y : ℕ) (r : Ordering) → MatchOrdering r (x < y) (x ≡ y) (y < x) → MatchOrdering r (n + x < n + y) (n + x ≡ n + y) (n + y < n + x)
shifted_by n x y Equal h = ap (λ z. n + z) h
shifted_by n x y _ h = omega (arith, h)

shifted : (n x y : ℕ) → nat_cmp (n + x) (n + y) ≡ nat_cmp x y
shifted n x y = sym (nat_cmp_is (n + x) (n + y) _ (shifted_by n x y _ (ranks x y)))

in_turn : (a b c : Ordering) → ordering_then a (ordering_then b c) ≡ ordering_then (ordering_then a b) c
in_turn Less b c = refl
in_turn _ b c = refl

-- the order of the quotients by 64 and of the continuation bytes is that of the numbers
last : (x y : ℕ) (o : Ordering) → ordering_then (nat_cmp (x / 64) (y / 64)) (ordering_then (nat_cmp (next x) (next y)) o) ≡ ordering_then (nat_cmp x y) o
last x y o = ap (λ b. ordering_then (nat_cmp (x / 64) (y / 64)) (ordering_then b o)) (shifted 128 (x % 64) (y % 64)) ∙
    (in_turn (nat_cmp (x / 64) (y / 64)) (nat_cmp (x % 64) (y % 64)) o ∙ ap (λ r. ordering_then r o) (digits x y))

-- the order from the first bytes, then from the bytes that follow
led : (n a b x y : ℕ) (o : Ordering) → a ≡ x / 64 → b ≡ y / 64 → ordering_then (nat_cmp (n + a) (n + b)) (ordering_then (nat_cmp (next x) (next y)) o)
    ≡ ordering_then (nat_cmp x y) o
led n a b x y o e f =
    ap (λ r. ordering_then r (ordering_then (nat_cmp (next x) (next y)) o)) (shifted n a b ∙ ap₂ nat_cmp e f) ∙ last x y o

below : (x y a b : ℕ) (o r : Ordering) → a < b → x < y → ordering_then (nat_cmp a b) o ≡ ordering_then (nat_cmp x y) r
below x y a b o r h k = ap (λ t. ordering_then t o) (sym (nat_cmp_is a b Less h)) ∙ ap (λ t. ordering_then t r) (nat_cmp_is x y Less k)

above : (x y a b : ℕ) (o r : Ordering) → b < a → y < x → ordering_then (nat_cmp a b) o ≡ ordering_then (nat_cmp x y) r
above x y a b o r h k = ap (λ t. ordering_then t o) (sym (nat_cmp_is a b Greater h)) ∙ ap (λ t. ordering_then t r) (nat_cmp_is x y Greater k)

quotient : (x : ℕ) → x / 4096 ≡ x / 64 / 64
quotient x = omega arith

quotient_again : (x : ℕ) → x / 262144 ≡ x / 4096 / 64
quotient_again x = omega arith

compared : (x y : ℕ) (r s : List ℕ) → slice_cmp nat_cmp (encode_utf8 x ++ r) (encode_utf8 y ++ s) ≡ ordering_then (nat_cmp x y) (slice_cmp nat_cmp r s)
compared x y r s = by (encoded x) (encoded y)
  where
    so : (a b : List ℕ) (o : Ordering) → encode_utf8 x ≡ a → encode_utf8 y ≡ b → slice_cmp nat_cmp (a ++ r) (b ++ s) ≡ o
        → slice_cmp nat_cmp (encode_utf8 x ++ r) (encode_utf8 y ++ s) ≡ o
    so a b o e f h = ap₂ (λ p q. slice_cmp nat_cmp (p ++ r) (q ++ s)) e f ∙ h

    by : Encoded x → Encoded y → slice_cmp nat_cmp (encode_utf8 x ++ r) (encode_utf8 y ++ s) ≡ ordering_then (nat_cmp x y) (slice_cmp nat_cmp r s)
    by (one h e) (one k f) = so _ _ _ e f refl
    by (two l h e) (two m k f) = so _ _ _ e f (led 192 _ _ x y _ refl refl)
    by (three l h e) (three m k f) = so _ _ _ e f (led 224 _ _ (x / 64) (y / 64) _ (quotient x) (quotient y) ∙ last x y _)
    by (four l e) (four m f) = so _ _ _ e f
        (led 240 _ _ (x / 4096) (y / 4096) _ (quotient_again x) (quotient_again y) ∙ (ap₂ (λ a b. ordering_then (nat_cmp a b) (ordering_then (nat_cmp (next (x / 64)) (next (y / 64))) (ordering_then (nat_cmp (next x) (next y)) (slice_cmp nat_cmp r s)))) (quotient x) (quotient y) ∙ (last (x / 64) (y / 64) _ ∙ last x y _)))
    by (one h e) (two m k f) = so _ _ _ e f (below x y x (192 + y / 64) _ _ (omega arith) (omega arith))
    by (one h e) (three m k f) = so _ _ _ e f (below x y x (224 + y / 4096) _ _ (omega arith) (omega arith))
    by (one h e) (four m f) = so _ _ _ e f (below x y x (240 + y / 262144) _ _ (omega arith) (omega arith))
    by (two l h e) (three m k f) = so _ _ _ e f (below x y (192 + x / 64) (224 + y / 4096) _ _ (omega arith) (omega arith))
    by (two l h e) (four m f) = so _ _ _ e f (below x y (192 + x / 64) (240 + y / 262144) _ _ (omega arith) (omega arith))
    by (three l h e) (four m f) = so _ _ _ e f (below x y (224 + x / 4096) (240 + y / 262144) _ _ (omega arith) (omega arith))
    by (two l h e) (one k f) = so _ _ _ e f (above x y (192 + x / 64) y _ _ (omega arith) (omega arith))
    by (three l h e) (one k f) = so _ _ _ e f (above x y (224 + x / 4096) y _ _ (omega arith) (omega arith))
    by (four l e) (one k f) = so _ _ _ e f (above x y (240 + x / 262144) y _ _ (omega arith) (omega arith))
    by (three l h e) (two m k f) = so _ _ _ e f (above x y (224 + x / 4096) (192 + y / 64) _ _ (omega arith) (omega arith))
    by (four l e) (two m k f) = so _ _ _ e f (above x y (240 + x / 262144) (192 + y / 64) _ _ (omega arith) (omega arith))
    by (four l e) (three m k f) = so _ _ _ e f (above x y (240 + x / 262144) (224 + y / 4096) _ _ (omega arith) (omega arith))

pub order : (left right : List ℕ) → slice_cmp nat_cmp (encode_utf8_all left) (encode_utf8_all right) ≡ slice_cmp nat_cmp left right
order [] [] = refl
order [] (y ∷ right) = before (encoded y)
  where
    before : Encoded y → slice_cmp nat_cmp [] (encode_utf8 y ++ encode_utf8_all right) ≡ Less
    before (one h e) = ap (λ bs. slice_cmp nat_cmp [] (bs ++ encode_utf8_all right)) e
    before (two l h e) = ap (λ bs. slice_cmp nat_cmp [] (bs ++ encode_utf8_all right)) e
    before (three l h e) = ap (λ bs. slice_cmp nat_cmp [] (bs ++ encode_utf8_all right)) e
    before (four l e) = ap (λ bs. slice_cmp nat_cmp [] (bs ++ encode_utf8_all right)) e
order (x ∷ left) [] = after (encoded x)
  where
    after : Encoded x → slice_cmp nat_cmp (encode_utf8 x ++ encode_utf8_all left) [] ≡ Greater
    after (one h e) = ap (λ bs. slice_cmp nat_cmp (bs ++ encode_utf8_all left) []) e
    after (two l h e) = ap (λ bs. slice_cmp nat_cmp (bs ++ encode_utf8_all left) []) e
    after (three l h e) = ap (λ bs. slice_cmp nat_cmp (bs ++ encode_utf8_all left) []) e
    after (four l e) = ap (λ bs. slice_cmp nat_cmp (bs ++ encode_utf8_all left) []) e
order (x ∷ left) (y ∷ right) = compared x y (encode_utf8_all left) (encode_utf8_all right) ∙ ap (ordering_then (nat_cmp x y)) (order left right)
