-- The bytes that occur in a line's parts, and those that do not.
use Rattle.assembler.proofs.Prelude.{◌≡◌, ◌+◌, ◌≤◌, ℕ, ℤ, List, [], ◌∷◌, refl, arith, true, false, sym, ap, ◌∙◌, suc, pos, negsuc, ◌++◌, subst, ◌==◌, map, IsTrue, AllBelowBase, all_below_base_digits_of, address_text, decimal, offset_text, operand_text, place_text, register_text, Operand, Register, goes_on_name, IsLabel, begins_name, HasNoByte, is_plain, offset_plain, operand_plain, plain_append, register_plain, all_plain, and_parts, false≢true, nat_tests}
use Rattle.std.specs.List.{list_all}
use Rattle.assembler.proofs.Lacking.{apart, go_lacks, lacks_append}

pub plain_lacks : (c : ℕ) → is_plain c ≡ false → (xs : List ℕ) → all_plain xs ≡ true → HasNoByte c xs
plain_lacks c f [] e = tt
plain_lacks c f (x ∷ xs) e = let t = and_parts (is_plain x) (all_plain xs) e in (λ p. false≢true (sym f ∙ ap is_plain (sym p) ∙ t.0), plain_lacks c f xs t.1)

first_byte_plain : (c : ℕ) → begins_name c ≡ true → is_plain c ≡ true
first_byte_plain c e = grind (arith, nat_tests)

pub all_go_on_plain : (cs : List ℕ) → IsTrue (list_all goes_on_name cs) → all_plain cs ≡ true
all_go_on_plain [] e = refl
all_go_on_plain (c ∷ cs) e =
    let t = and_parts (goes_on_name c) (list_all goes_on_name cs) e in
    let p : is_plain c ≡ true = (grind (arith, nat_tests)) in
    rw (p, all_go_on_plain cs t.1) refl

pub name_plain : (cs : List ℕ) → IsLabel cs → all_plain cs ≡ true
name_plain h0 h = grind (arith, is_plain, true, first_byte_plain, all_go_on_plain)

go_number : (b : ℕ) → 48 ≤ b → b ≤ 57 → goes_on_name b ≡ true
go_number b low high = grind arith

go_digits : (ds : List ℕ) → AllBelowBase 10 ds → list_all goes_on_name (map (λ d. 48 + d) ds) ≡ true
go_digits [] low = refl
go_digits (d ∷ ds) low = rw (go_number (48 + d) (omega (arith, low.0)) (omega (arith, low.0))) (go_digits ds low.1)

pub go_decimal : (n : ℕ) → list_all goes_on_name (decimal n) ≡ true
unfolding decimal
go_decimal n = grind (arith, go_digits, all_below_base_digits_of)

pub lacks_decimal : (c : ℕ) → goes_on_name c ≡ false → (n : ℕ) → HasNoByte c (decimal n)
lacks_decimal c h n = go_lacks c h (decimal n) (go_decimal n)

-- a byte that occurs only between operands
pub lacks_place : (c : ℕ) → is_plain c ≡ false → (91 == c) ≡ false → (93 == c) ≡ false → (r : Register) (z : ℤ) → HasNoByte c (place_text r z)
lacks_place c f o k r z =
    (apart 91 c o, lacks_append c (address_text r z) (93 ∷ []) (plain_lacks c f (address_text r z) (plain_append (register_text r) (offset_text z) (register_plain r) (offset_plain z))) (apart 93 c k, tt))

pub lacks_operand : (c : ℕ) → is_plain c ≡ false → (o : Operand) → HasNoByte c (operand_text o)
lacks_operand c f o = plain_lacks c f (operand_text o) (operand_plain o)

pub operand_lacks_comma : (o : Operand) → HasNoByte 44 (operand_text o)
operand_lacks_comma o = lacks_operand 44 refl o

-- Addresses are split at the sign and are between brackets.

pub plus_cut : (r : Register) (z : ℤ) (text front back : List ℕ) → ((xs ys : List ℕ) → HasNoByte 43 xs → text ≡ xs ++ 43 ∷ ys → (front ≡ xs) × (back ≡ 43 ∷ ys)) → (HasNoByte 43 text → true ≡ false) → text ≡ address_text r z → (front ≡ register_text r) × (back ≡ offset_text z)
plus_cut r (pos n) text front back only none e = only (register_text r) (decimal n) (grind arith) e
plus_cut r (negsuc n) text front back only none e =
    let l : HasNoByte 43 text = subst (λ t. HasNoByte 43 t) (sym e) (lacks_append 43 (register_text r) (45 ∷ decimal (suc n)) (grind arith) (apart 45 43 refl, lacks_decimal 43 refl (suc n))) in
    let f : true ≡ false = none l in
    absurd cc
