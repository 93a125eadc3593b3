-- Tests that only texts of ASCII pass give of their bytes what they give of their code points.
use Rattle.text_functions.proofs.Prelude.{◌≡◌, ◌∙◌, ◌∷◌, ◌<◌, ◌||◌, ◌==◌, ℕ, zero, suc, Bool, true, false, and_parts, List, []}
use Rattle.text_functions.proofs.Prelude.{arith, refl, sym, ap, subst, eqb-true, nat_le, nat_tests, IsAscii, IsAscii-append, IsUtf8}
use Rattle.text_functions.proofs.Prelude.{chars, chars-IsAscii, encodes-IsAscii, encodes-chars, join_with_byte}
use Rattle.text_functions.proofs.Prelude.{join_with_byte-slice_split, length, list_all, slice_split, has_ends}
use Rattle.text_functions.proofs.Prelude.{is_alphanumeric, is_dns1035_label, is_dns1123_label, is_dns1123_subdomain, is_framed, is_label}
use Rattle.text_functions.proofs.Prelude.{is_label_character, is_label_value, is_lower_alphanumeric, is_lower_letter, is_value_character}

alike : (v w : Bool) → (v ≡ true → v ≡ w) → (w ≡ true → v ≡ w) → v ≡ w
alike true w a b = a refl
alike false true a b = b refl
alike false false a b = refl

pub same : (test : List ℕ → Bool) → ((xs : List ℕ) → test xs ≡ true → IsAscii xs) → (text : List ℕ) → IsUtf8 text → test text ≡ test (chars text)
same test ascii text utf8 =
    alike (test text) (test (chars text)) (λ e. ap test (sym (chars-IsAscii text (ascii text e))))
    (λ e. ap test (sym (encodes-chars text utf8) ∙ encodes-IsAscii (chars text) (ascii (chars text) e)))

all_ascii : (test : ℕ → Bool) → ((c : ℕ) → test c ≡ true → c < 128) → (xs : List ℕ) → list_all test xs ≡ true → IsAscii xs
all_ascii test low [] e zero = omega arith
all_ascii test low [] e (suc i) = omega arith
all_ascii test low (x ∷ xs) e zero = low x (and_parts (test x) (list_all test xs) e).0
all_ascii test low (x ∷ xs) e (suc i) = all_ascii test low xs (and_parts (test x) (list_all test xs) e).1 i

label_low : (c : ℕ) → is_label_character c ≡ true → c < 128
label_low c e = grind (arith, nat_tests)

value_low : (c : ℕ) → is_value_character c ≡ true → c < 128
value_low c e = grind (arith, nat_tests)

none_ascii : (xs : List ℕ) → length xs ≡ 0 → IsAscii xs
none_ascii [] e zero = omega arith
none_ascii [] e (suc i) = omega arith
none_ascii (x ∷ xs) e i = let no : ⊥ = omega arith in absurd no

more_ascii : (c : ℕ) (xs : List ℕ) → c < 128 → IsAscii xs → IsAscii (c ∷ xs)
more_ascii c xs l h zero = l
more_ascii c xs l h (suc i) = h i

label_ascii : (xs : List ℕ) → is_label xs ≡ true → IsAscii xs
unfolding is_label
label_ascii xs e =
    all_ascii is_label_character label_low xs (and_parts (has_ends is_lower_alphanumeric is_lower_alphanumeric xs) (list_all is_label_character xs) e).1

joined_ascii : (parts : List (List ℕ)) → list_all is_label parts ≡ true → IsAscii (join_with_byte 46 parts)
joined_ascii [] e = none_ascii [] refl
joined_ascii (x ∷ []) e = label_ascii x (and_parts (is_label x) true e).0
joined_ascii (x ∷ y ∷ parts) e =
    let h : (is_label x ≡ true) × (list_all is_label (y ∷ parts) ≡ true) = and_parts (is_label x) (list_all is_label (y ∷ parts)) e in
    IsAscii-append x (46 ∷ join_with_byte 46 (y ∷ parts)) (label_ascii x h.0) (more_ascii 46 (join_with_byte 46 (y ∷ parts)) (omega arith) (joined_ascii (y ∷ parts) h.1))

pub dns1123_label_ascii : (xs : List ℕ) → is_dns1123_label xs ≡ true → IsAscii xs
unfolding is_dns1123_label
dns1123_label_ascii xs e = label_ascii xs (and_parts (nat_le (length xs) 63) (is_label xs) e).1

pub dns1123_subdomain_ascii : (xs : List ℕ) → is_dns1123_subdomain xs ≡ true → IsAscii xs
unfolding is_dns1123_subdomain
dns1123_subdomain_ascii xs e =
    subst IsAscii (join_with_byte-slice_split 46 xs)
    (joined_ascii (slice_split (λ c. c == 46) xs) (and_parts (nat_le (length xs) 253) (list_all is_label (slice_split (λ c. c == 46) xs)) e).1)

pub dns1035_label_ascii : (xs : List ℕ) → is_dns1035_label xs ≡ true → IsAscii xs
unfolding is_dns1035_label
dns1035_label_ascii xs e =
    let framed : is_framed is_lower_letter is_label_character is_lower_alphanumeric xs ≡ true =
    (and_parts (nat_le (length xs) 63) (is_framed is_lower_letter is_label_character is_lower_alphanumeric xs) e).1 in
    all_ascii is_label_character label_low xs (and_parts (has_ends is_lower_letter is_lower_alphanumeric xs) (list_all is_label_character xs) framed).1

either_ascii : (xs : List ℕ) (v w : Bool) → (v ≡ true → IsAscii xs) → (w ≡ true → IsAscii xs) → (v || w) ≡ true → IsAscii xs
either_ascii xs true w a b e = a refl
either_ascii xs false w a b e = b e

pub label_value_ascii : (xs : List ℕ) → is_label_value xs ≡ true → IsAscii xs
unfolding is_label_value
label_value_ascii xs e =
    either_ascii xs (length xs == 0) (is_framed is_alphanumeric is_value_character is_alphanumeric xs) (λ h. none_ascii xs (eqb-true (length xs) 0 h))
    (λ h. all_ascii is_value_character value_low xs (and_parts (has_ends is_alphanumeric is_alphanumeric xs) (list_all is_value_character xs) h).1)
    (and_parts (nat_le (length xs) 63) (length xs == 0 || is_framed is_alphanumeric is_value_character is_alphanumeric xs) e).1
