-- Bytes that do not occur in a line's parts; a statement's line contains no line feed.
use Rattle.insn_codec.proofs.Prelude.{◌≡◌, ◌/◌, ◌%◌, ◌<◌, ℕ, zero, suc, ℤ, List, [], ◌∷◌, ◌++◌, Bool, true, refl, arith, ◌∙◌, ◌≢◌, All, nat_eq, not, ◌&&◌, codes, list_all, AllDigits, and_from, and_parts, nat_tests, list_all-append, decimal, hex_digit, hex_digits, offset_text, operand_text, register_text, signed_decimal, wide_text, address_text, line_with, operands_text, place_text, mnemonic_text, Register, Operand, Mnemonic, All-nil, All-cons, NoLineFeed, statement_text}
use Rattle.insn_codec.specs.Lines.{mnemonic_of, operands_of}
use Rattle.insn_codec.specs.declared.insn.Insn.{Insn as Instruction}
use Rattle.insn_codec.specs.declared.mnemonic.Mnemonic.TheVariants as mnemonic
use Rattle.insn_codec.specs.declared.statement.Statement.TheVariants.{Insn, Slot}
use Rattle.insn_codec.proofs.Decimals.{decimal_digits}

-- whether the byte is none of those between parts: line feed, space, comma, colon and square brackets
abbrev pub is_plain : ℕ → Bool
is_plain c = (not (nat_eq c 10) && not (nat_eq c 32)) && ((not (nat_eq c 44) && not (nat_eq c 58)) && (not (nat_eq c 91) && not (nat_eq c 93)))

abbrev pub all_plain : List ℕ → Bool
all_plain = list_all is_plain

pub plain_append : (xs ys : List ℕ) → all_plain xs ≡ true → all_plain ys ≡ true → all_plain (xs ++ ys) ≡ true
plain_append xs ys e f = list_all-append is_plain xs ys ∙ and_from (all_plain xs) (all_plain ys) e f

pub register_plain : (x : Register) → all_plain (register_text x) ≡ true
register_plain x = grind arith

pub mnemonic_plain : (m : Mnemonic) → all_plain (mnemonic_text m) ≡ true
mnemonic_plain m = grind arith

digits_plain : (cs : List ℕ) → AllDigits 10 cs → all_plain cs ≡ true
digits_plain [] d = refl
digits_plain (c ∷ cs) d = grind (arith, digits_plain cs d.1)

pub decimal_plain : (n : ℕ) → all_plain (decimal n) ≡ true
decimal_plain n = digits_plain (decimal n) (decimal_digits n)

pub signed_decimal_plain : (z : ℤ) → all_plain (signed_decimal z) ≡ true
signed_decimal_plain z = grind (arith, decimal_plain)

pub offset_plain : (z : ℤ) → all_plain (offset_text z) ≡ true
offset_plain z = grind (arith, decimal_plain)

pub operand_plain : (o : Operand) → all_plain (operand_text o) ≡ true
operand_plain o = grind (arith, signed_decimal_plain, register_plain)

hex_digit_plain : (d : ℕ) → d < 16 → is_plain (hex_digit d) ≡ true
hex_digit_plain d low = grind (arith, nat_tests)

hex_plain : (count n : ℕ) → all_plain (hex_digits count n) ≡ true
unfolding hex_digits
hex_plain zero n = refl
hex_plain (suc count) n = plain_append (hex_digits count (n / 16)) (hex_digit (n % 16) ∷ []) (hex_plain count (n / 16)) (rw (hex_digit_plain (n % 16) (omega arith)) refl)

pub wide_plain : (w : ℕ) → all_plain (wide_text w) ≡ true
wide_plain w = hex_plain 16 w

abbrev is_quiet : ℕ → Bool
is_quiet b = not (nat_eq b 10)

-- no byte is a line feed
record Quiet (text : List ℕ) : Type 0 where
  tells : list_all is_quiet text ≡ true

infixl 12 ◌then◌
◌then◌ : {xs ys : List ℕ} → Quiet xs → Quiet ys → Quiet (xs ++ ys)
◌then◌ {xs = xs} {ys = ys} h k = record { tells = list_all-append is_quiet xs ys ∙ and_from (list_all is_quiet xs) (list_all is_quiet ys) h.tells k.tells }

literal : (text : List ℕ) → list_all is_quiet text ≡ true → Quiet text
literal text h = record { tells = h }

byte_of_plain : (c : ℕ) → is_plain c ≡ true → is_quiet c ≡ true
byte_of_plain c e = (and_parts (is_quiet c) (not (nat_eq c 32)) (and_parts (is_quiet c && not (nat_eq c 32)) _ e).0).0

of_plain : (xs : List ℕ) → all_plain xs ≡ true → list_all is_quiet xs ≡ true
of_plain [] e = refl
of_plain (x ∷ xs) e =
    let t = and_parts (is_plain x) (all_plain xs) e in
    and_from (is_quiet x) (list_all is_quiet xs) (byte_of_plain x t.0) (of_plain xs t.1)

plain : (xs : List ℕ) → all_plain xs ≡ true → Quiet xs
plain xs e = record { tells = of_plain xs e }

register : (r : Register) → Quiet (register_text r)
register r = grind arith

offset : (z : ℤ) → Quiet (offset_text z)
offset z = plain (offset_text z) (offset_plain z)

place : (r : Register) (z : ℤ) → Quiet (place_text r z)
place r z = literal (codes "[") refl then (plain (address_text r z) (plain_append (register_text r) (offset_text z) (register_plain r) (offset_plain z)) then literal (codes "]") refl)

-- none of the operands contains a line feed
abbrev AllQuiet : List (List ℕ) → Type 0
AllQuiet [] = Unit {0}
AllQuiet (x ∷ xs) = Quiet x × AllQuiet xs

all_quiet : (i : Instruction) → AllQuiet (operands_of i)
all_quiet i = grind (arith, register, operand_plain, offset, signed_decimal_plain, place, plain, wide_plain)

slot_quiet : (word : ℕ) → AllQuiet (wide_text word ∷ [])
slot_quiet word = grind (arith, plain, wide_plain)

joined_quiet : (xs : List (List ℕ)) → AllQuiet xs → Quiet (operands_text xs)
joined_quiet [] h = literal [] refl
joined_quiet (x ∷ []) h = h.0
joined_quiet (x ∷ y ∷ ys) h = h.0 then (literal (codes ", ") refl then joined_quiet (y ∷ ys) h.1)

line_quiet : (m : Mnemonic) (xs : List (List ℕ)) → AllQuiet xs → Quiet (line_with m xs)
line_quiet m [] h = plain (mnemonic_text m) (mnemonic_plain m)
line_quiet m (x ∷ xs) h = plain (mnemonic_text m) (mnemonic_plain m) then (literal (codes " ") refl then joined_quiet (x ∷ xs) h)

-- the test on each byte implies the property
heard : (xs : List ℕ) → list_all is_quiet xs ≡ true → All (λ b. b ≢ 10) xs
heard [] h = All-nil (λ b. b ≢ 10)
heard (x ∷ xs) h = All-cons (λ b. b ≢ 10) x xs (grind (arith, h)) (heard xs (grind (arith, h)))

pub statement_on_one_line : NoLineFeed
statement_on_one_line (Insn i) h = heard (statement_text (Insn i)) (line_quiet (mnemonic_of i) (operands_of i) (all_quiet i)).tells
statement_on_one_line (Slot word) h = heard (statement_text (Slot word)) (line_quiet mnemonic.Slot (wide_text word ∷ []) (slot_quiet word)).tells
