-- The instruction at the front of bytes is the one whose encoding they begin with.
use Rattle.insn_codec.proofs.Prelude.{◌≡◌, ℕ, ◌+◌, ◌*◌, ◌^◌, ◌<◌, sym, subst, arith, List, ◌++◌, drop, FitsSigned, ◌≢◌, ◌%◌, Option, Some, None, refl, ◌∙◌, ap, All, slice_index, Bool, true, false, Decides, IfSome, nat_eq, if◌then◌else◌, w16, w32, from_le_bytes, w64, to_le_bytes, cases_lt, eqb-true, eq-eqb, false_from_ne_true, ne_eqb, get_or-drop, get_or_past, Slot, second_imm, slot_bytes, slot_of, IsSlot, starts_with, starts_is, ◌>>=◌, candidate_at, SpelledIsSpelling, spelled, BeginsWith, IsInsn, first_slot, more_bytes, on_hand, second_bytes, spelling, Insn}
use Rattle.insn_codec.proofs.Ranges.{HighOf, candidate_at-first_slot, candidate_in_range, first_slot_fits}

-- the fields of a slot are read back from its bytes, with any bytes after them
pub slot_of-slot_bytes : (s : Slot) (rest : List ℕ) → IsSlot s → slot_of (slot_bytes s ++ rest) ≡ s
slot_of-slot_bytes s rest f = grind arith

byte_after : (n : ℕ) (text : List ℕ) (k : ℕ) → All (λ b. b < 256) text → slice_index (drop n text) k < 256
byte_after n text k small = subst (λ b. b < 256) (sym (get_or-drop n text k 0)) (grind (arith, cases_lt, get_or_past))

below_32 : (a b c d : ℕ) → a < 256 → b < 256 → c < 256 → d < 256 → a + b * 256 + c * 65536 + d * 16777216 < 2 ^ 32
below_32 a b c d e f g h = omega arith

four_below : (n : ℕ) (text : List ℕ) → All (λ b. b < 256) text → from_le_bytes w32 (drop n text) < 2 ^ 32
four_below n text small = below_32 _ _ _ _ (byte_after n text 0 small) (byte_after n text 1 small) (byte_after n text 2 small) (byte_after n text 3 small)

-- the fields read from bytes are in range
pub offset_fits : (text : List ℕ) → All (λ b. b < 256) text → FitsSigned w16 (slot_of text).offset
offset_fits text small = grind arith

pub imm_fits : (text : List ℕ) → All (λ b. b < 256) text → FitsSigned w32 (slot_of text).imm
imm_fits text small = grind arith

pub second_imm_below : (text : List ℕ) → All (λ b. b < 256) text → second_imm text < 2 ^ 32
second_imm_below text small = four_below 12 text small

-- the candidate, kept if the text begins with its encoding
abbrev kept : List ℕ → Insn → Option Insn
kept text i = if starts_with nat_eq text (spelling i) then Some i else None

starts : (front text : List ℕ) → Decides (starts_with nat_eq text front) (BeginsWith front text)
starts front text =
    let is = starts_is (λ a b. (eqb-true a b, eq-eqb a b)) text front (starts_with nat_eq text front) refl in
    ((λ e. (_, is.0 e)), (λ b. is.1 b.0 b.1))

kept_begins : (text : List ℕ) (i : Insn) → BeginsWith (spelling i) text → kept text i ≡ Some i
kept_begins text i b = rw ((starts (spelling i) text).1 b) refl

kept_not : (text : List ℕ) (i : Insn) → (BeginsWith (spelling i) text → ⊥) → kept text i ≡ None
kept_not text i n = rw (false_from_ne_true (starts_with nat_eq text (spelling i)) (λ e. n ((starts (spelling i) text).0 e))) refl

none_some : {A : Type 0} (i : A) → None ≡ Some i → ⊥
none_some i e = cc

same_some : {A : Type 0} (i j : A) → Some i ≡ Some j → i ≡ j
same_some i j e = cc

-- what is kept is the candidate, with its encoding in front
kept_is : (text : List ℕ) (o : Option Insn) (i : Insn) → (o >>= kept text) ≡ Some i → (o ≡ Some i) × BeginsWith (spelling i) text
kept_is text None i e = absurd (none_some i e)
kept_is text (Some j) i e = by (starts_with nat_eq text (spelling j)) refl e
  where
    by : (t : Bool) → starts_with nat_eq text (spelling j) ≡ t → (if t then Some j else None) ≡ Some i → (Some j ≡ Some i) × BeginsWith (spelling i) text
    by true h g = (g, subst (λ k. BeginsWith (spelling k) text) (same_some j i g) ((starts (spelling j) text).0 h))
    by false h g = absurd (none_some i g)

-- by the candidate of the first slot
pub spelled_none : (text : List ℕ) → candidate_at (slot_of text) (second_imm text) ≡ None → spelled text ≡ None
unfolding spelled
spelled_none text e = rw e refl

pub spelled_some : (text : List ℕ) (i : Insn) → candidate_at (slot_of text) (second_imm text) ≡ Some i → BeginsWith (spelling i) text → spelled text ≡ Some i
unfolding spelled
spelled_some text i e b = rw e (kept_begins text i b)

pub spelled_other : (text : List ℕ) (i : Insn) → candidate_at (slot_of text) (second_imm text) ≡ Some i → (BeginsWith (spelling i) text → ⊥) → spelled text ≡ None
unfolding spelled
spelled_other text i e n = rw e (kept_not text i n)

high_of : (i : Insn) (rest : List ℕ) → IsInsn i → HighOf i (second_imm (slot_bytes (first_slot i) ++ (second_bytes i ++ rest)))
high_of i rest f = grind arith

candidate_of_spelling : (i : Insn) (text : List ℕ) → IsInsn i → BeginsWith (spelling i) text → candidate_at (slot_of text) (second_imm text) ≡ Some i
candidate_of_spelling i text f b =
    let s : Slot = first_slot i in
    let high : ℕ = second_imm (slot_bytes s ++ (second_bytes i ++ b.0)) in
    ap (λ t. candidate_at (slot_of t) (second_imm t)) b.1 ∙ ap (λ x. candidate_at x high) (slot_of-slot_bytes s (second_bytes i ++ b.0) (first_slot_fits i f)) ∙ candidate_at-first_slot i high (high_of i b.0 f)

pub spelled_begins : (i : Insn) (text : List ℕ) → IsInsn i → BeginsWith (spelling i) text → spelled text ≡ Some i
spelled_begins i text f b = spelled_some text i (candidate_of_spelling i text f b) b

found_in_range : (o : Option Insn) (i : Insn) → o ≡ Some i → IfSome o IsInsn → IsInsn i
found_in_range o i e h = grind arith

pub spelled_is : SpelledIsSpelling
unfolding spelled
spelled_is text small i =
    ((λ e. let k : (candidate_at (slot_of text) (second_imm text) ≡ Some i) × BeginsWith (spelling i) text = kept_is text (candidate_at (slot_of text) (second_imm text)) i e in (k.1, found_in_range _ i k.0 (candidate_in_range (slot_of text) (second_imm text) (offset_fits text small) (imm_fits text small) (second_imm_below text small)))), spelled_begins i text)

pub one_reading_of : (i j : Insn) (text : List ℕ) → IsInsn i → IsInsn j → BeginsWith (spelling i) text → BeginsWith (spelling j) text → i ≡ j
one_reading_of i j text f g x y = same_some i j (sym (spelled_begins i text f x) ∙ spelled_begins j text g y)

-- the bytes after the first slot matter only for the opcode of a wide load
candidate_alone : (s : Slot) (high other : ℕ) → s.opcode ≢ 0x18 → candidate_at s high ≡ candidate_at s other
unfolding candidate_at
candidate_alone s high other n = rw (ne_eqb s.opcode 0x18 n) refl

pub spelled_alone : (first : ℕ) (second : Option ℕ) → first % 256 ≢ 0x18 → spelled (on_hand first second) ≡ spelled (on_hand first None)
unfolding spelled
spelled_alone first second n = grind (arith, candidate_alone)

-- the fields of the words, if the first one's slot has been read
pub candidate_of_words : (s : Slot) (first : ℕ) (second : Option ℕ) (high : ℕ) → IsSlot s → slot_bytes s ≡ to_le_bytes w64 first → high ≡ from_le_bytes w32 (drop 4 (more_bytes second)) → candidate_at (slot_of (on_hand first second)) (second_imm (on_hand first second)) ≡ candidate_at s high
candidate_of_words s first second high f e h = grind arith

-- words begin with the encoding of one slot if the first is its word
pub one_begins : (front : List ℕ) (own first : ℕ) (more second : Option ℕ) → more ≡ None → on_hand own more ≡ front → own ≡ first → BeginsWith front (on_hand first second)
one_begins front own first more second n e h = (more_bytes second, ap (λ x. x ++ more_bytes second) (ap (λ x. on_hand x None) (sym h) ∙ ap (on_hand own) (sym n) ∙ e))
