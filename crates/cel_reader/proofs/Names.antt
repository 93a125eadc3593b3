-- Names are ASCII.
use Rattle.cel_reader.proofs.Prelude.{◌≡◌, ℕ, List, [], ◌∷◌, Bool, true, false, ◌&&◌, refl, sym, true≢false, arith, list_all, IsUtf8, IsAscii, IsUtf8-from_ascii, IsAscii-nil, IsAscii-cons, nat_tests, is_letter, is_name_byte, is_name}

-- both are true
both_true : (a b : Bool) → (a && b) ≡ true → (a ≡ true) × (b ≡ true)
both_true true b e = (refl, e)
both_true false b e = absurd (true≢false (sym e))

all_ascii : (bs : List ℕ) → list_all is_name_byte bs ≡ true → IsAscii bs
all_ascii [] h = IsAscii-nil
all_ascii (b ∷ bs) h = grind (arith, nat_tests, both_true, all_ascii bs (both_true (is_name_byte b) (list_all is_name_byte bs) h).1)

pub name_utf8 : (n : List ℕ) → is_name n ≡ true → IsUtf8 n
name_utf8 [] h = absurd cc
name_utf8 (b ∷ bs) h =
    IsUtf8-from_ascii (b ∷ bs) (IsAscii-cons b bs (grind (arith, nat_tests)) (all_ascii bs (both_true (is_letter b) (list_all is_name_byte bs) h).1))
