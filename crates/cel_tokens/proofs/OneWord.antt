-- The bytes of a token have one word.
use Rattle.cel_tokens.proofs.Prelude.{◌≡◌, ℕ, zero, suc, ◌<◌, List, [], ◌∷◌, ◌++◌, length, drop, refl, sym, ◌∙◌, ap, subst, arith, Bool, true, false, Some, ◌==◌, ℤ, pos, neg_ℤ, nat_tests, append-nil, length-append, drop-append_seam, digit_begins, Mark, Word, name, int, text, mark, is_letter, is_digit_of, between, mark_of, one_byte, two_bytes, is_quote, is_raw_prefix, LiteralMeans, Skips, Spells, decimal, hex, IsToken, HasToken, OpensText, by_quote, by_prefix, a_name, an_int, a_signed_int, a_mark, a_text, a_raw_text}
use Rattle.cel_tokens.proofs.NegatedInts.{same_value, stops_at_digit}
use Rattle.cel_tokens.proofs.LongestGap.{goes_on}
use Rattle.cel_tokens.proofs.LongestToken.{name_byte_is_no_quote, skipped, some_behind, some_digits}
use Rattle.cel_tokens.proofs.SaidPieces.{says_its_pieces}

-- the kinds of tokens
data Kind : Type 0 where
  Name : Kind
  Int : Kind
  Signed : Kind
  Sign : Kind
  Text : Kind
  Raw : Kind

-- the kind of a token of these bytes; c: the second byte is a quote; some: there is a second byte
abbrev kind_by : (quote letter digit minus c some : Bool) → Kind
kind_by true l d m c s = Text
kind_by false true d m true s = Raw
kind_by false true d m false s = Name
kind_by false false true m c s = Int
kind_by false false false true c true = Signed
kind_by false false false _ c _ = Sign

abbrev second_quote : List ℕ → Bool
second_quote [] = false
second_quote (c ∷ cs) = is_quote c

abbrev some : List ℕ → Bool
some [] = false
some (c ∷ cs) = true

abbrev kind : List ℕ → Kind
kind [] = Sign
kind (b ∷ bs) = kind_by (is_quote b) (is_letter b) (is_digit_of 10 b) (b == 45) (second_quote bs) (some bs)

abbrev behind : List ℕ → List ℕ
behind [] = []
behind (b ∷ bs) = bs

-- the word of a token of this kind
abbrev Of : Kind → List ℕ → Word → Type 0
Of Name bytes w = w ≡ name bytes
Of Int bytes w = (value : ℕ) × Spells bytes value × (w ≡ int (pos value))
Of Signed bytes w = (digits : List ℕ) × (value : ℕ) × Skips (behind bytes) digits × Spells digits value × (w ≡ int (neg_ℤ (pos value)))
Of Sign bytes w = (m : Mark) × (mark_of bytes ≡ Some m) × (w ≡ mark m)
Of Text (b ∷ bs) w = (said : List ℕ) × LiteralMeans false b bs (length bs) said × (w ≡ text said)
Of Raw (b ∷ c ∷ cs) w = (said : List ℕ) × LiteralMeans true c cs (length cs) said × (w ≡ text said)
Of _ _ w = ⊥

digit_plain : (b : ℕ) → is_digit_of 10 b ≡ true → (is_quote b ≡ false) × (is_letter b ≡ false)
digit_plain b d = (grind (arith, nat_tests), grind (arith, nat_tests))

int_kind : {bytes : List ℕ} {value : ℕ} → Spells bytes value → kind bytes ≡ Int
int_kind (decimal [] a) = absurd a
int_kind (decimal (b ∷ bs) a) = let p = digit_plain b a.0 in let d = a.0 in rw (p.0, p.1, d) refl
int_kind (hex d ds a) = refl

-- a byte that is neither a quote nor a letter nor a digit
abbrev IsSign : ℕ → Type 0
IsSign b = (is_quote b ≡ false) × (is_letter b ≡ false) × (is_digit_of 10 b ≡ false)

one_sign : (b : ℕ) (m : Mark) → one_byte b ≡ Some m → IsSign b
one_sign b m e = (grind (arith, nat_tests), grind (arith, nat_tests), grind (arith, nat_tests))

two_sign : (a b : ℕ) (m : Mark) → two_bytes a b ≡ Some m → IsSign a × ((a == 45) ≡ false)
two_sign a b m e = ((grind (arith, nat_tests), grind (arith, nat_tests), grind (arith, nat_tests)), grind (arith, nat_tests))

mark_kind : (bytes : List ℕ) (m : Mark) → mark_of bytes ≡ Some m → kind bytes ≡ Sign
mark_kind [] m e = refl
mark_kind (a ∷ []) m e = let p = one_sign a m e in rw (p.0, p.1, p.2) (grind arith)
mark_kind (a ∷ b ∷ []) m e = let p = two_sign a b m e in rw (p.0.0, p.0.1, p.0.2, p.1) refl
mark_kind (a ∷ b ∷ c ∷ bs) m e = absurd cc

signed_kind : (bytes : List ℕ) → 0 < length bytes → kind (45 ∷ bytes) ≡ Signed
signed_kind bytes h0 = grind arith

prefix_plain : (b : ℕ) → is_raw_prefix b ≡ true → (is_quote b ≡ false) × (is_letter b ≡ true)
prefix_plain b r = (grind (arith, nat_tests), grind (arith, nat_tests))

text_kind : (quote : ℕ) (bytes : List ℕ) → is_quote quote ≡ true → kind (quote ∷ bytes) ≡ Text
text_kind quote bytes q = rw q refl

raw_kind : (prefix quote : ℕ) (bytes : List ℕ) → is_raw_prefix prefix ≡ true → is_quote quote ≡ true → kind (prefix ∷ quote ∷ bytes) ≡ Raw
raw_kind prefix quote bytes r q = let p = prefix_plain prefix r in rw (p.0, p.1, q) refl

of_kind : (k : Kind) (bytes : List ℕ) (w : Word) → kind bytes ≡ k → Of k bytes w → Of (kind bytes) bytes w
of_kind k bytes w e o = subst (λ j. Of j bytes w) (sym e) o

of_its_kind : {signed : Bool} {bytes : List ℕ} {w : Word} → IsToken signed bytes w → Of (kind bytes) bytes w
of_its_kind (a_name {bytes = bytes} a) = of_kind Name bytes _ (grind (arith, nat_tests, name_byte_is_no_quote)) refl
of_its_kind (an_int {bytes = bytes} {value = value} s) = of_kind Int bytes _ (int_kind s) (value, s, refl)
of_its_kind (a_signed_int {bytes = bytes} {digits = digits} {value = value} s p) =
    of_kind Signed (45 ∷ bytes) _ (signed_kind bytes (some_behind s (some_digits p))) (digits, value, s, p, refl)
of_its_kind (a_mark {bytes = bytes} {m = m} e) = of_kind Sign bytes _ (mark_kind bytes m e) (m, e, refl)
of_its_kind (a_text {quote = quote} {bytes = bytes} {said = said} q s) = of_kind Text (quote ∷ bytes) _ (text_kind quote bytes q) (said, s, refl)
of_its_kind (a_raw_text {prefix = prefix} {quote = quote} {bytes = bytes} {said = said} r q s) =
    of_kind Raw (prefix ∷ quote ∷ bytes) _ (raw_kind prefix quote bytes r q) (said, s, refl)

-- ---- uniqueness, kind by kind

digits_are : {digits : List ℕ} {value : ℕ} → Spells digits value → between false digits ≡ 0
digits_are {digits} s = stops_at_digit digits (subst (λ xs. digit_begins xs ≡ true) (append-nil digits) (grind arith))

-- digits end a text in one way
same_end : (first more xs ys : List ℕ) → first ++ xs ≡ more ++ ys → length xs ≡ length ys → xs ≡ ys
same_end first more xs ys e l =
    let k : length first ≡ length more = omega (arith, l, ap length e, length-append first xs, length-append more ys) in
    sym (drop-append_seam first xs) ∙ (λ i. drop (k i) (e i)) ∙ drop-append_seam more ys

unique : (k : Kind) (bytes : List ℕ) (w v : Word) → Of k bytes w → Of k bytes v → w ≡ v
unique Name bytes w v e f = e ∙ sym f
unique Int bytes w v (m, s, e) (n, t, f) = e ∙ ap (λ k. int (pos k)) (same_value s t) ∙ sym f
unique Signed bytes w v (xs, m, s, p, e) (ys, n, t, q, f) = grind (arith, same_value, skipped, same_end, goes_on, digits_are)
unique Sign bytes w v (m, s, e) (n, t, f) = e ∙ ap mark (cc) ∙ sym f
unique Text (b ∷ bs) w v (xs, s, e) (ys, t, f) = e ∙ ap text (grind (arith, says_its_pieces)) ∙ sym f
unique Raw (b ∷ c ∷ cs) w v (xs, s, e) (ys, t, f) = e ∙ ap text (grind (arith, says_its_pieces)) ∙ sym f
unique _ _ w v o p = absurd o

pub one_word : {signed : Bool} {bytes : List ℕ} {w v : Word} → IsToken signed bytes w → IsToken signed bytes v → w ≡ v
one_word {bytes = bytes} {w = w} {v = v} s t = unique (kind bytes) bytes w v (of_its_kind s) (of_its_kind t)

-- an int does not begin where a text literal begins
int_is_no_text : {P : Type 0} (z : ℤ) (said : List ℕ) → int z ≡ text said → P
int_is_no_text z said e = absurd cc

int_is_no_name : {P : Type 0} (z : ℤ) (bytes : List ℕ) → int z ≡ name bytes → P
int_is_no_name z bytes e = absurd cc

pub no_int : (signed : Bool) (bytes : List ℕ) (n : ℕ) (z : ℤ) → OpensText bytes → HasToken signed bytes n (int z) → ⊥
no_int signed bytes zero z o t = let m = (of_its_kind t.1).1 in absurd cc
no_int signed [] (suc n) z o t = elim o [ ]
no_int signed (quote ∷ bs) (suc n) z (by_quote q) t = grind (arith, text_kind, of_its_kind, int_is_no_text)
no_int signed (prefix ∷ quote ∷ bs) (suc zero) z (by_prefix r q) t = grind (arith, prefix_plain, int_is_no_name, of_its_kind)
no_int signed (prefix ∷ quote ∷ bs) (suc (suc n)) z (by_prefix r q) t = grind (arith, raw_kind, of_its_kind, int_is_no_text)
