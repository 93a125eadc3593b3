-- The statement at the front of code.
use Rattle.insn_codec.proofs.Prelude.{◌≡◌, ◌≢◌, ℕ, zero, suc, ◌*◌, ◌%◌, ◌^◌, ◌<◌, ◌≤◌, List, [], ◌∷◌, ◌++◌, Option, Some, None, All, refl, sym, ◌∙◌, ap, arith, length, take, drop, get_or, append_assoc, take-append-drop, length-take-le, cases_lt, get_or_past, All-take, be_bytes_8, w64, to_be_bytes, from_be_bytes, spelled, BeginsWith, IsInsn, slot_count, spelling, StatementIsSpelled, IsStatement, statement_bytes, statement_of, statement_slots, Insn as Instruction}
use Rattle.insn_codec.specs.declared.statement.Statement.TheVariants.{Insn, Slot}
use Rattle.std.specs.Option.{option_map_or}
use Rattle.insn_codec.proofs.Spelled.{spelled_is}

-- a front of at most n bytes is within the first n bytes
within : (n : ℕ) (front rest : List ℕ) → length front ≤ n → BeginsWith front (take n (front ++ rest))
within n [] rest fits = (take n rest, refl)
within zero (x ∷ front) rest fits = absurd (omega arith)
within (suc n) (x ∷ front) rest fits = grind (arith, within n front rest (omega arith))

begins_within : (n : ℕ) (front code : List ℕ) → length front ≤ n → BeginsWith front code → BeginsWith front (take n code)
begins_within n front code fits b =
    let found = within n front b.0 fits in
    (found.0, ap (take n) b.1 ∙ found.1)

begins_whole : (n : ℕ) (front code : List ℕ) → BeginsWith front (take n code) → BeginsWith front code
begins_whole n front code b = (b.0 ++ drop n code, sym (take-append-drop n code) ∙ ap (λ (t : List ℕ). t ++ drop n code) b.1 ∙ append_assoc front b.0 (drop n code))

-- an instruction at the front, followed by the rest
insn_bytes : (i : Instruction) (code : List ℕ) → BeginsWith (spelling i) code → code ≡ spelling i ++ drop (8 * slot_count i) code
insn_bytes i code b = b.1 ∙ ap (λ (t : List ℕ). spelling i ++ t) (sym (ap (drop (8 * slot_count i)) b.1 ∙ (grind arith)))

some_slot : (code : List ℕ) → length code % 8 ≡ 0 → code ≢ [] → 8 ≤ length code
some_slot [] whole some = absurd (some refl)
some_slot (b ∷ code) whole some = omega arith

byte_at : (bytes : List ℕ) → All (λ b. b < 256) bytes → (k : ℕ) → get_or bytes k 0 < 256
byte_at bytes small k = grind (arith, cases_lt, get_or_past)

-- a slot at the front, followed by the rest
slot_bytes_back : (code : List ℕ) → All (λ b. b < 256) code → 8 ≤ length code → code ≡ to_be_bytes w64 (from_be_bytes w64 (take 8 code)) ++ drop 8 code
slot_bytes_back code small long = grind (arith, be_bytes_8, length-take-le, byte_at, take-append-drop)

word_below : (bytes : List ℕ) → ((k : ℕ) → get_or bytes k 0 < 256) → from_be_bytes w64 bytes < 2 ^ 64
word_below bytes small = omega arith

-- by the instruction that the first sixteen bytes encode
stands : (code : List ℕ) (o : Option Instruction) → spelled (take 16 code) ≡ o → All (λ b. b < 256) code → 8 ≤ length code
    → IsStatement (option_map_or Insn o (Slot (from_be_bytes w64 (take 8 code)))) × (code ≡ statement_bytes (option_map_or Insn o (Slot (from_be_bytes w64 (take 8 code)))) ++ drop (8 * statement_slots (option_map_or Insn o (Slot (from_be_bytes w64 (take 8 code))))) code)
stands code (Some i) e small long =
    let is = (spelled_is (take 16 code) (All-take (λ b. b < 256) 16 code small) i).0 e in
    (is.1, insn_bytes i code (begins_whole 16 (spelling i) code is.0))
stands code None e small long = (word_below (take 8 code) (byte_at (take 8 code) (All-take (λ b. b < 256) 8 code small)), slot_bytes_back code small long)

pub chosen_of : (code : List ℕ) (i : Instruction) → All (λ b. b < 256) code → IsInsn i → BeginsWith (spelling i) code → statement_of code ≡ Insn i
unfolding statement_of
chosen_of code i small fits b =
    ap (λ (o : Option Instruction). option_map_or Insn o (Slot (from_be_bytes w64 (take 8 code)))) ((spelled_is (take 16 code) (All-take (λ b. b < 256) 16 code small) i).1 fits (begins_within 16 (spelling i) code (grind arith) b))

pub is_spelled : StatementIsSpelled
unfolding statement_of
is_spelled code small whole some =
    let both = stands code (spelled (take 16 code)) refl small (some_slot code whole some) in
    record { in_range = both.0; bytes = both.1; chosen = λ i fits b. chosen_of code i small fits b }
