-- The words of a verdict, as a program stores them.
use Rattle.policy_code.proofs.Prelude.{◌≡◌, ◌<◌, ◌≤◌, ◌+◌, ◌*◌, ◌^◌, ℕ, zero, suc, List, [], ◌∷◌, ◌++◌, length, Option, Some, None, arith, refl, sym, ap, ◌∙◌, not, ◌%◌, Result, false, count_by, slice_get, if◌then◌else◌, ℤ, pos, cases_eq, count_by-le-length, sum_by-append, put_word, word_in, put_word-other, put_word-same, read_word, write_word, ValueOrError, IsLayout, IsMessageWord, finding_word, first_message, first_result, message_in, part_limit, outcome_word, Finding, Verdict, is_denial, CheckResult, is_failed, is_held, truth_of, FailurePolicy, Names, Eq, Ne, Register, R0, R10, W64, compares, CpuState, at, set_register, Context, IsWellFormedState, LeavesValue, set_verdict, Framed, verdict_address, verdict_at, fits_registers, fits_verdict, told, w64, cast_unsigned, Memory, Constants, IsMemory, base_of, Fault, Insn, Load, Store, StoreImm, Imm, Reg, Dw, load_row, loaded, store_row, stored, is_frame_pointer, RunContext, RunsTo, slots, IsCodeAt, has_verdict, does, operand_is, register_set, one}
use Rattle.guest_memory.specs.Memory.{Verdict as VerdictRegion}
use Rattle.loader.specs.Contents.{Image}
use Rattle.expression_code.proofs.Steps as step

-- the words of a region: the outcome, the number of denials, the result of each validation and its message
pub record HasWords (outcome denials : ℕ) (result : ℕ → ℕ) (message : ℕ → Option (List ℕ)) (values : List ValueOrError) (region : List ℕ) : Type 0 where
  pub outcome_is : word_in region 0 ≡ outcome
  pub denials_are : word_in region 1 ≡ denials
  pub results : (i : ℕ) → i < part_limit → word_in region (first_result + i) ≡ result i
  pub messages : (i : ℕ) → i < part_limit → IsMessageWord values (word_in region (first_message + i)) (message i)
  pub others : (i : ℕ) → first_message + part_limit ≤ i → i < 256 → word_in region i ≡ 0

-- ---- a word is stored

-- each word of a region of 2048 bytes ends within it
whole_word : (region : List ℕ) (i : ℕ) → length region ≡ 2048 → i < 256 → 8 * i + 8 ≤ length region
whole_word region i long below = omega arith

message_on : (values : List ValueOrError) (w w1 : ℕ) (m m1 : Option (List ℕ)) → w1 ≡ w → m1 ≡ m → IsMessageWord values w m → IsMessageWord values w1 m1
message_on values w w1 m m1 same equal is = rw (same, equal) is

module _ {outcome denials : ℕ} {result : ℕ → ℕ} {message : ℕ → Option (List ℕ)} {values : List ValueOrError} {region : List ℕ} (long : length region ≡ 2048) (has : HasWords outcome denials result message values region) (word : ℕ) (small : word < 2 ^ 64) where
  other : (i j : ℕ) → i < 256 → (j ≡ i → ⊥) → word_in (put_word region i word) j ≡ word_in region j
  other i j below apart = put_word-other region i word (whole_word region i long below) j apart

  same : (i : ℕ) → i < 256 → word_in (put_word region i word) i ≡ word
  same i below = put_word-same region i word (whole_word region i long below) small

  pub outcome_put : HasWords word denials result message values (put_word region 0 word)
  outcome_put = grind (arith, same, other, message_on)

  pub denials_put : HasWords outcome word result message values (put_word region 1 word)
  denials_put = grind (arith, other, same, message_on)

  module _ (k : ℕ) (inside : k < part_limit) where
    -- one word of a list that begins at `first` is changed; the others keep their facts
    row_put : (Says : ℕ → ℕ → Type 0) (first : ℕ) → first + part_limit ≤ 256 → Says word k
        → ((i : ℕ) → i < part_limit → (i ≡ k → ⊥) → Says (word_in region (first + i)) i)
        → (i : ℕ) → i < part_limit → Says (word_in (put_word region (first + k) word) (first + i)) i
    row_put Says first room here rest i below = grind (arith, cases_eq, same, other)

    pub result_put : (more : ℕ → ℕ) → more k ≡ word → ((j : ℕ) → (j ≡ k → ⊥) → more j ≡ result j)
        → HasWords outcome denials more message values (put_word region (first_result + k) word)
    result_put more here rest = record {
      outcome_is = other (first_result + k) 0 (omega arith) (λ e. omega arith) ∙ has.outcome_is;
      denials_are = other (first_result + k) 1 (omega arith) (λ e. omega arith) ∙ has.denials_are;
      results = row_put (λ w i. w ≡ more i) first_result (omega arith) (sym here) (λ i below apart. has.results i below ∙ sym (rest i apart));
      messages = λ i below. message_on values _ _ _ _ (other (first_result + k) (first_message + i) (omega arith) (λ e. omega arith)) refl (has.messages i below);
      others = λ i past below. other (first_result + k) i (omega arith) (λ e. omega arith) ∙ has.others i past below;
    }

    pub message_put : (more : ℕ → Option (List ℕ)) → IsMessageWord values word (more k) → ((j : ℕ) → (j ≡ k → ⊥) → more j ≡ message j)
        → HasWords outcome denials result more values (put_word region (first_message + k) word)
    message_put more here rest = record {
      outcome_is = other (first_message + k) 0 (omega arith) (λ e. omega arith) ∙ has.outcome_is;
      denials_are = other (first_message + k) 1 (omega arith) (λ e. omega arith) ∙ has.denials_are;
      results = λ i below. other (first_message + k) (first_result + i) (omega arith) (λ e. omega arith) ∙ has.results i below;
      messages = row_put (λ w i. IsMessageWord values w (more i)) first_message (omega arith) here
          (λ i below apart. message_on values _ _ _ _ refl (rest i apart) (has.messages i below));
      others = λ i past below. other (first_message + k) i (omega arith) (λ e. omega arith) ∙ has.others i past below;
    }

-- ---- one more finding

abbrev pub result_of : List Finding → ℕ → ℕ
result_of xs i = finding_word (slice_get xs i)

abbrev pub message_of : List Finding → ℕ → Option (List ℕ)
message_of xs i = message_in (slice_get xs i)

pub get_last : (xs : List Finding) (x : Finding) → slice_get (xs ++ x ∷ []) (length xs) ≡ Some x
get_last [] x = refl
get_last (y ∷ xs) x = get_last xs x

pub get_other : (xs : List Finding) (x : Finding) (j : ℕ) → (j ≡ length xs → ⊥) → slice_get (xs ++ x ∷ []) j ≡ slice_get xs j
get_other [] x zero apart = absurd (apart refl)
get_other (y ∷ xs) x (suc j) apart = get_other xs x j (λ e. apart (ap suc e))
get_other _ x _ apart = refl

-- a further finding that is read like an absent one does not change what is read
pub none_more : {A : Type 0} (read : Option Finding → A) (xs : List Finding) (x : Finding) (j : ℕ)
    → read (Some x) ≡ read None → read (slice_get (xs ++ x ∷ []) j) ≡ read (slice_get xs j)
none_more read [] x zero none = none
none_more read (y ∷ xs) x (suc j) none = none_more read xs x j none
none_more read _ x _ none = refl

pub message_last : (xs : List Finding) (x : Finding) → message_of (xs ++ x ∷ []) (length xs) ≡ x.message
message_last xs x = ap message_in (get_last xs x)

-- without a message, the words for messages are unchanged
pub message_none : (xs : List Finding) (x : Finding) (j : ℕ) → x.message ≡ None → message_of (xs ++ x ∷ []) j ≡ message_of xs j
message_none xs x j none = none_more message_in xs x j none

abbrev pub count_of : FailurePolicy → List Finding → ℕ
count_of f xs = count_by (is_denial f) xs

pub count_more : (f : FailurePolicy) (xs : List Finding) (x : Finding) → count_of f (xs ++ x ∷ []) ≡ count_of f xs + (if is_denial f x then 1 else 0)
count_more f xs x = grind (arith, sum_by-append)

pub count_small : (f : FailurePolicy) (xs : List Finding) → length xs ≤ part_limit → count_of f xs < 2 ^ 64
count_small f xs few = let most = count_by-le-length (is_denial f) xs in omega arith

-- ---- the whole layout

pub is_layout : (f : FailurePolicy) (v : Verdict) (values : List ValueOrError) (region : List ℕ)
    → HasWords (outcome_word v.outcome) (count_of f v.findings) (result_of v.findings) (message_of v.findings) values region → IsLayout f v values region
is_layout f v values region has = record { outcome = has.outcome_is; denials = has.denials_are; results = has.results; messages = has.messages; others = has.others }

pub record Marks (c : Context) (outcome denials : ℕ) (result : ℕ → ℕ) (message : ℕ → Option (List ℕ)) (b : CpuState) : Type 0 where
  pub fits : IsWellFormedState c 0 0 b
  pub words : HasWords outcome denials result message b.values.values b.memory.verdict

-- the region holds this outcome and these findings
abbrev pub Marked : Context → FailurePolicy → ℕ → List Finding → CpuState → Type 0
Marked c f outcome xs = Marks c outcome (count_of f xs) (result_of xs) (message_of xs)

-- and R0 refers to the value of an expression
pub record Judges (c : Context) (f : FailurePolicy) (outcome : ℕ) (xs : List Finding) (x : ValueOrError) (b : CpuState) : Type 0 where
  pub marked : Marked c f outcome xs b
  pub named : Names b.values.values (b.registers R0) x

module _ {c : Context} {outcome denials : ℕ} {result : ℕ → ℕ} {message : ℕ → Option (List ℕ)} {b : CpuState} (marks : Marks c outcome denials result message b) where
  pub long_region : length b.memory.verdict ≡ 2048
  long_region = marks.fits.frame.memory.verdict

  -- only registers have changed
  pub marks_registers : (registers : Register → ℕ) → registers R10 ≡ b.registers R10
      → Marks c outcome denials result message (record b { registers = registers })
  marks_registers registers same = grind (arith, fits_registers)

  -- code for an expression has run
  pub marks_shown : (x : ValueOrError) (last : CpuState) → LeavesValue c 0 0 x b last → Marks c outcome denials result message last
  marks_shown x last shown = grind arith

  -- the same words with equal numbers
  pub marks_told : {d : ℕ} {results : ℕ → ℕ} {messages : ℕ → Option (List ℕ)} → d ≡ denials → ((j : ℕ) → results j ≡ result j)
      → ((j : ℕ) → messages j ≡ message j) → Marks c outcome d results messages b
  marks_told count same_results same_messages = grind arith

  -- ---- a word is stored

  word_stored : {o d : ℕ} {r : ℕ → ℕ} {m : ℕ → Option (List ℕ)} (i w : ℕ) → i < 256 → HasWords o d r m b.values.values (put_word b.memory.verdict i w)
      → Marks c o d r m (set_verdict i w b)
  word_stored i w below words = record { fits = fits_verdict 0 i w b marks.fits.frame below c 0 marks.fits; words = words }

  module _ (w : ℕ) (small : w < 2 ^ 64) where
    pub outcome_stored : Marks c w denials result message (set_verdict 0 w b)
    outcome_stored = word_stored 0 w (omega arith) (outcome_put long_region marks.words w small)

    pub denials_stored : Marks c outcome w result message (set_verdict 1 w b)
    denials_stored = word_stored 1 w (omega arith) (denials_put long_region marks.words w small)

    pub result_stored : (k : ℕ) → k < part_limit → (more : ℕ → ℕ) → more k ≡ w → ((j : ℕ) → (j ≡ k → ⊥) → more j ≡ result j)
        → Marks c outcome denials more message (set_verdict (first_result + k) w b)
    result_stored k inside more here rest = word_stored (first_result + k) w (omega arith) (result_put long_region marks.words w small k inside more here rest)

    pub message_stored : (k : ℕ) → k < part_limit → (more : ℕ → Option (List ℕ)) → IsMessageWord b.values.values w (more k)
        → ((j : ℕ) → (j ≡ k → ⊥) → more j ≡ message j) → Marks c outcome denials result more (set_verdict (first_message + k) w b)
    message_stored k inside more here rest =
        word_stored (first_message + k) w (omega arith) (message_put long_region marks.words w small k inside more here rest)

-- ---- tests of the reference in R0

-- what the tests for the references of true and false show about the value
pub record Tests (t : CheckResult) (r : ℕ) : Type 0 where
  pub held : compares W64 Eq r 3 ≡ is_held t
  pub failed : compares W64 Eq r 2 ≡ is_failed t
  pub not_failed : compares W64 Ne r 2 ≡ not (is_failed t)

pub tested : (c : Context) (x : ValueOrError) (t : CheckResult) (b : CpuState) → IsWellFormedState c 0 0 b → Names b.values.values (b.registers R0) x → truth_of x ≡ t
    → Tests t (b.registers R0)
tested c x t b fits named is = grind (arith, told)

-- a register holds the address of word i; word w is j words after it
module _ (image : Image) (p : ℕ) (b : CpuState) (i j w : ℕ) (is : IsMemory b.memory) (same : w ≡ i + j) (below : w < 256) where
  load_does : (dst src : Register) → b.registers src ≡ verdict_address i → is_frame_pointer dst ≡ false
      → load_row Dw dst src (pos (8 * j)) (at image p b) ≡ at image (p + 1) (set_register b dst (verdict_at w b))
  unfolding load_row
  load_does dst src e free =
      let place : (b.registers src + cast_unsigned w64 (pos (8 * j))) % 2 ^ 64 ≡ base_of VerdictRegion + 8 * w = omega arith in
      let read = read_word b.memory VerdictRegion w _ is (has_verdict w b.memory is below) place in
      rw (free, operand_is image p b (Reg src)) (ap (λ (t : Result ℕ Fault). loaded dst (λ v. v) t (at image p b)) read ∙ register_set image p b (p + 1) dst (verdict_at w b))

  put_does : (dst : Register) (n : ℤ) → b.registers dst ≡ verdict_address i
      → store_row Dw dst (pos (8 * j)) (Imm n) (at image p b) ≡ at image (p + 1) (set_verdict w (cast_unsigned w64 n) b)
  unfolding store_row
  put_does dst n e =
      let place : (b.registers dst + cast_unsigned w64 (pos (8 * j))) % 2 ^ 64 ≡ base_of VerdictRegion + 8 * w = omega arith in
      let write = write_word b.memory VerdictRegion w _ (cast_unsigned w64 n) is (λ (e : VerdictRegion ≡ Constants). absurd (cc)) (has_verdict w b.memory is below) place in
      rw (operand_is image p b (Reg dst)) (ap (λ (t : Result Memory Fault). stored t (at image p b)) write)

module _ {s : RunContext} {o : ℕ} {piece : List Insn} {n x p' : ℕ} {b : CpuState} {Q : CpuState → Type 0} (has : IsCodeAt s.image.code o piece) where
  pub load_verdict : {dst src : Register} {depth : ℕ} (k i j w : ℕ) → slice_get (slots piece) k ≡ Some (Some (Load Dw dst src (pos (8 * j)))) → Framed depth b → w ≡ i + j → w < 256 → b.registers src ≡ verdict_address i → is_frame_pointer dst ≡ false → RunsTo s n x (o + (k + 1)) (set_register b dst (verdict_at w b)) p' Q → RunsTo s (suc n) x (o + k) b p' Q
  load_verdict {dst} {src} {depth} k i j w h f same below e free c =
      let place : o + k + 1 ≡ o + (k + 1) = omega arith in
      one s (o + k) b (does s.image (o + k) b _ (has.here k _ h) ∙ load_does s.image (o + k) b i j w f.memory same below dst src e free ∙ ap (λ (q : ℕ). at s.image q (set_register b dst (verdict_at w b))) place) refl refl refl c

  -- a number
  pub put_verdict : {dst : Register} {depth : ℕ} {m : ℤ} (k i j w : ℕ) → slice_get (slots piece) k ≡ Some (Some (StoreImm Dw dst (pos (8 * j)) m)) → Framed depth b → w ≡ i + j → w < 256 → b.registers dst ≡ verdict_address i → RunsTo s n x (o + (k + 1)) (set_verdict w (cast_unsigned w64 m) b) p' Q → RunsTo s (suc n) x (o + k) b p' Q
  put_verdict {dst} {depth} {m} k i j w h f same below e c =
      let place : o + k + 1 ≡ o + (k + 1) = omega arith in
      one s (o + k) b (does s.image (o + k) b _ (has.here k _ h) ∙ put_does s.image (o + k) b i j w f.memory same below dst m e ∙ ap (λ (q : ℕ). at s.image q (set_verdict w (cast_unsigned w64 m) b)) place) refl refl refl c

  pub store_verdict : {dst src : Register} {depth : ℕ} (k i : ℕ) → slice_get (slots piece) k ≡ Some (Some (Store Dw dst (pos 0) src)) → Framed depth b → i < 256 → b.registers dst ≡ verdict_address i → RunsTo s n x (o + (k + 1)) (set_verdict i (b.registers src) b) p' Q → RunsTo s (suc n) x (o + k) b p' Q
  store_verdict {dst} {src} {depth} k i h f below e c = step.store_verdict s (o + k) (o + (k + 1)) b depth i dst src (has.here k _ h) f below e (omega arith) c
