-- The lines of an input as its bytes are read.
use Rattle.streams.proofs.Prelude.{◌≡◌, ℕ, suc, ◌+◌, ◌-◌, ◌≤◌, Bool, List, [], ◌∷◌, ◌++◌, length, take, drop, fold, nat_eq, cond, refl, sym, ap, ◌∙◌, arith, append_assoc, append-nil, length-take, take-add, take-append-drop, take-append-le, take_all, fold-append, nat_tests, cut, cut_byte, with_rest, input_lines, readable}
use Rattle.streams.specs.Hearing.{HasNoFeed}

abbrev pub Pieces : Type 0
Pieces = List (List ℕ) × List ℕ

pub cut-none : cut [] ≡ ([], [])
unfolding cut
cut-none = grind arith

-- these pieces after lines that have ended
abbrev behind : List (List ℕ) → Pieces → Pieces
behind lines p = (lines ++ p.0, p.1)

byte_behind : (feed : Bool) (lines : List (List ℕ)) (p : Pieces) (b : ℕ)
    → cond feed ((lines ++ p.0) ++ p.1 ∷ [], []) (lines ++ p.0, p.1 ++ b ∷ []) ≡ behind lines (cond feed (p.0 ++ p.1 ∷ [], []) (p.0, p.1 ++ b ∷ []))
byte_behind feed lines p b = grind (arith, nat_tests, append_assoc)

pub cut_behind : (bytes : List ℕ) (lines : List (List ℕ)) (p : Pieces) → fold cut_byte (behind lines p) bytes ≡ behind lines (fold cut_byte p bytes)
cut_behind [] lines p = refl
cut_behind (b ∷ bytes) lines p = ap (λ (q : Pieces). fold cut_byte q bytes) (byte_behind (nat_eq b 10) lines p b) ∙ cut_behind bytes lines (cut_byte p b)

-- more bytes continue the last line, and keep those before it
cut-append : (front more : List ℕ) → cut (front ++ more) ≡ behind (cut front).0 (fold cut_byte ([], (cut front).1) more)
unfolding cut
cut-append front more =
    fold-append cut_byte ([], []) front more
    ∙ (λ i. fold cut_byte (sym (append-nil (cut front).0) i, (cut front).1) more)
    ∙ cut_behind more (cut front).0 ([], (cut front).1)

-- bytes of a line
plain_byte : (rest : List ℕ) (b : ℕ) → (b ≡ 10 → ⊥) → cut_byte ([], rest) b ≡ ([], rest ++ b ∷ [])
plain_byte rest b plain = grind (arith, nat_tests, nat_eq)

open_part : (rest part : List ℕ) → HasNoFeed part → fold cut_byte ([], rest) part ≡ ([], rest ++ part)
open_part rest [] plain = ap (λ (line : List ℕ). ([], line)) (sym (append-nil rest))
open_part rest (b ∷ bytes) plain =
    ap (λ (p : Pieces). fold cut_byte p bytes) (plain_byte rest b (plain 0 (omega arith)))
    ∙ open_part (rest ++ b ∷ []) bytes (λ k inside. plain (suc k) (omega (arith, inside)))
    ∙ ap (λ (line : List ℕ). ([], line)) (append_assoc rest (b ∷ []) bytes)

pub cut-part : (heard part : List ℕ) → HasNoFeed part → cut (heard ++ part) ≡ ((cut heard).0, (cut heard).1 ++ part)
cut-part heard part plain =
    cut-append heard part
    ∙ ap (behind (cut heard).0) (open_part (cut heard).1 part plain)
    ∙ ap (λ (lines : List (List ℕ)). (lines, (cut heard).1 ++ part)) (append-nil (cut heard).0)

-- the rest of a line, and the line feed that ends it
pub cut-line : (heard rest : List ℕ) → HasNoFeed rest → cut (heard ++ (rest ++ 10 ∷ [])) ≡ ((cut heard).0 ++ ((cut heard).1 ++ rest) ∷ [], [])
cut-line heard rest plain =
    ap cut (sym (append_assoc heard rest (10 ∷ [])))
    ∙ cut-append (heard ++ rest) (10 ∷ [])
    ∙ ap (λ (p : Pieces). (p.0 ++ p.1 ∷ [], [])) (cut-part heard rest plain)

pub lines-append : (front more : List ℕ) → (later : List (List ℕ)) × ((cut (front ++ more)).0 ≡ (cut front).0 ++ later)
lines-append front more = ((fold cut_byte ([], (cut front).1) more).0, ap (λ (p : Pieces). p.0) (cut-append front more))

-- whole lines
abbrev pub Whole : List ℕ → Type 0
Whole text = (cut text).1 ≡ []

pub whole-append : (front more : List ℕ) → Whole front → Whole more → Whole (front ++ more)
unfolding cut
whole-append front more whole next = grind (arith, nat_tests, cut-append)

with_rest-behind : (lines more : List (List ℕ)) (rest : List ℕ) → with_rest (lines ++ more) rest ≡ lines ++ with_rest more rest
with_rest-behind lines more rest = grind (arith, nat_tests, append_assoc)

pub input_lines-append : (part rest : List ℕ) → (more : List (List ℕ)) × (input_lines (part ++ rest) ≡ (cut part).0 ++ more)
input_lines-append part rest =
    let p = fold cut_byte ([], (cut part).1) rest in
    (with_rest p.0 p.1, ap (λ (q : Pieces). with_rest q.0 q.1) (cut-append part rest) ∙ with_rest-behind (cut part).0 p.0 p.1)

-- if the last line has ended, and if it has not
pub input_lines-ended : (input : List ℕ) → take 65 (cut input).1 ≡ [] → input_lines input ≡ (cut input).0
input_lines-ended input none = grind arith

pub take-split : (limit i : ℕ) (input : List ℕ) → i ≤ limit → take i input ++ take (limit - i) (drop i input) ≡ take limit input
take-split limit i input before = let whole : i + (limit - i) ≡ limit = omega (arith, before) in sym (take-add i (limit - i) input) ∙ ap (λ (n : ℕ). take n input) whole

take-none : (n : ℕ) → take {A = ℕ} n [] ≡ []
take-none n = grind arith

-- if nothing is left
pub take-end : (input : List ℕ) (i limit : ℕ) → drop i input ≡ [] → i ≤ limit → take limit input ≡ take i input
take-end input i limit none before =
    sym (take-split limit i input before) ∙ ap (λ (more : List ℕ). take i input ++ take (limit - i) more) none ∙ ap (λ (more : List ℕ). take i input ++ more) (take-none (limit - i)) ∙ append-nil (take i input)

pub take-join : (n : ℕ) (xs ys : List ℕ) → take n (take n xs ++ ys) ≡ take n (xs ++ ys)
take-join (suc n) (x ∷ xs) ys = ap (λ (more : List ℕ). x ∷ more) (take-join n xs ys)
take-join _ _ ys = refl

pub readable-is : (input : List ℕ) → readable input ≡ take 9223372036854775808 input
unfolding readable
readable-is input = grind arith

-- a position of the input that is within its readable part
pub readable-within : (input : List ℕ) (limit i : ℕ) → readable input ≡ take limit input → i ≤ limit → i ≤ length input → i ≤ length (readable input)
readable-within input limit i all low inside = grind (arith, nat_tests, length-take)

-- the position after the last readable byte
pub readable-end : (input : List ℕ) (i : ℕ) → i ≤ length input → readable input ≡ take i input → i ≡ length (readable input)
readable-end input i inside all = grind (arith, length-take)

-- the readable bytes, and those after them
readable-split : (input : List ℕ) → readable input ++ drop 9223372036854775808 input ≡ input
readable-split input = ap (λ (front : List ℕ). front ++ drop 9223372036854775808 input) (readable-is input) ∙ take-append-drop 9223372036854775808 input

pub readable-front : (input : List ℕ) (n : ℕ) → n ≤ length (readable input) → take n (readable input) ≡ take n input
readable-front input n low = sym (take-append-le n (readable input) (drop 9223372036854775808 input) low) ∙ ap (take n) (readable-split input)

pub readable-all : (input : List ℕ) → take (length (readable input)) input ≡ readable input
readable-all input = sym (readable-front input (length (readable input)) (omega arith)) ∙ take_all (length (readable input)) (readable input) (omega arith)
