-- Names are ASCII.
use Rattle.wide_reader.proofs.Prelude.{◌≡◌, ℕ, List, [], ◌∷◌, Bool, true, false, ◌&&◌, refl, sym, true≢false, arith, list_all, IsUtf8, IsAscii, IsUtf8-from_ascii, IsAscii-nil, IsAscii-cons, nat_tests, is_name, is_selector, is_identifier, is_quoted_byte, is_quoted_name}
use Rattle.cel_reader.proofs.Names.{name_utf8}

-- both are true
both_true : (a b : Bool) → (a && b) ≡ true → (a ≡ true) × (b ≡ true)
both_true true b e = (refl, e)
both_true false b e = absurd (true≢false (sym e))

all_ascii : (bs : List ℕ) → list_all is_quoted_byte bs ≡ true → IsAscii bs
all_ascii [] h = IsAscii-nil
all_ascii (b ∷ bs) h =
    let p = both_true (is_quoted_byte b) (list_all is_quoted_byte bs) h in
    IsAscii-cons b bs (grind (arith, nat_tests)) (all_ascii bs p.1)

pub quoted_utf8 : (n : List ℕ) → is_quoted_name n ≡ true → IsUtf8 n
quoted_utf8 [] h = absurd cc
quoted_utf8 (b ∷ bs) h = IsUtf8-from_ascii (b ∷ bs) (all_ascii (b ∷ bs) h)

pub selector_utf8 : (n : List ℕ) → is_selector n ≡ true → IsUtf8 n
selector_utf8 n h = name_utf8 n (both_true (is_name n) _ h).0

pub identifier_utf8 : (n : List ℕ) → is_identifier n ≡ true → IsUtf8 n
identifier_utf8 n h = selector_utf8 n (both_true (is_selector n) _ h).0
