-- Pieces of code, one after another.
use Rattle.expression_code.proofs.Prelude.{◌≡◌, ℕ, zero, suc, ◌+◌, ◌*◌, ◌≤◌, List, [], ◌∷◌, ◌++◌, length, replicate, Option, Some, None, refl, sym, ap, ◌∙◌, arith, append_assoc, length-append, zero-add, subst, suc-add, pos, slice_get, slot_count, spelling, Insn, fetched, ValueOrError, CpuState, Context, Preserves, LeavesValue, variable_count, RunContext, RunsTo, insn_slots, slots, size, IsCodeAt}
use Rattle.expression_code.proofs.Frames.{keeps_then}
use Rattle.expression_code.proofs.Runs.{and_then, into, to_place}
use Rattle.expression_code.proofs.Values.{get_before}

pub slots-append : (a b : List Insn) → slots (a ++ b) ≡ slots a ++ slots b
slots-append [] b = refl
slots-append (i ∷ is) b = ap (λ (os : List (Option Insn)). insn_slots i ++ os) (slots-append is b) ∙ sym (append_assoc (insn_slots i) (slots is) (slots b))

pub size-append : (a b : List Insn) → size (a ++ b) ≡ size a + size b
size-append a b = ap (λ (os : List (Option Insn)). length os) (slots-append a b) ∙ length-append (slots a) (slots b)

-- each slot has eight bytes
pub length-spelling : (i : Insn) → length (spelling i) ≡ 8 * slot_count i
length-spelling i = grind arith

pub some_slots : (i : Insn) → 1 ≤ slot_count i
some_slots i = grind arith

pub length-insn_slots : (i : Insn) → length (insn_slots i) ≡ slot_count i
length-insn_slots i = grind arith

pub size-cons : (i : Insn) (is : List Insn) → size (i ∷ is) ≡ slot_count i + size is
size-cons i is = length-append (insn_slots i) (slots is) ∙ ap (λ (n : ℕ). n + size is) (length-insn_slots i)

get_right : (a b : List (Option Insn)) (k : ℕ) → slice_get (a ++ b) (length a + k) ≡ slice_get b k
get_right [] b k = let e : 0 + k ≡ k = omega arith in ap (slice_get b) e
get_right (x ∷ a) b k = let e : suc (length a) + k ≡ suc (length a + k) = omega arith in ap (slice_get (x ∷ (a ++ b))) e ∙ get_right a b k

module _ (code : List ℕ) (p : ℕ) where
  pub stands_front : (a b : List Insn) → IsCodeAt code p (a ++ b) → IsCodeAt code p a
  stands_front a b s = record { here = λ k i e. s.here k i (ap (λ (os : List (Option Insn)). slice_get os k) (slots-append a b) ∙ get_before (slots a) (slots b) k (Some i) e) }

  pub stands_back : (a b : List Insn) → IsCodeAt code p (a ++ b) → IsCodeAt code (p + size a) b
  stands_back a b s = record {
    here = λ k i e.
        let place : p + size a + k ≡ p + (size a + k) = omega arith in
        ap (λ (q : ℕ). fetched code (pos q)) place ∙ s.here (size a + k) i (ap (λ (os : List (Option Insn)). slice_get os (size a + k)) (slots-append a b) ∙ get_right (slots a) (slots b) k ∙ e);
  }

  pub stands_rest : (i : Insn) (is : List Insn) → IsCodeAt code p (i ∷ is) → IsCodeAt code (p + slot_count i) is
  stands_rest i is s =
      let e : size (i ∷ []) ≡ slot_count i = omega (arith, size-cons i []) in
      subst (λ (n : ℕ). IsCodeAt code (p + n) is) e (stands_back (i ∷ []) is s)

  pub stands_first : (i : Insn) (is : List Insn) → IsCodeAt code p (i ∷ is) → fetched code (pos p) ≡ Some (Some i)
  stands_first i is s = let place : p ≡ p + 0 = omega arith in ap (λ (q : ℕ). fetched code (pos q)) place ∙ s.here 0 i refl

  none_first : (n k : ℕ) (os : List (Option Insn)) (j : Insn) → slice_get (replicate n None ++ os) k ≡ Some (Some j) → (m : ℕ) × (k ≡ n + m) × (slice_get os m ≡ Some (Some j))
  none_first zero k os j e = (k, sym (zero-add k), e)
  none_first (suc n) zero os j e = cc
  none_first (suc n) (suc k) os j e = let r = none_first n k os j e in (r.0, ap suc r.1 ∙ sym (suc-add n r.0), r.2)

  cons_here : (i : Insn) (is : List Insn) → fetched code (pos p) ≡ Some (Some i) → IsCodeAt code (p + slot_count i) is → (k : ℕ) (j : Insn)
      → slice_get (slots (i ∷ is)) k ≡ Some (Some j) → fetched code (pos (p + k)) ≡ Some (Some j)
  cons_here i is h s zero j e = let place : p + 0 ≡ p = omega arith in ap (λ (q : ℕ). fetched code (pos q)) place ∙ h ∙ e
  cons_here i is h s (suc k) j e = grind (arith, none_first, some_slots)

  pub stands_cons : (i : Insn) (is : List Insn) → fetched code (pos p) ≡ Some (Some i) → IsCodeAt code (p + slot_count i) is → IsCodeAt code p (i ∷ is)
  stands_cons i is h s = record { here = cons_here i is h s }

-- ---- a run through a piece and the one after it

module _ (s : RunContext) (p : ℕ) (first second : List Insn) {n x : ℕ} {b : CpuState} {P : CpuState → Type 0} where
  pub runs_both : (m y : ℕ) (Q : CpuState → Type 0) → IsCodeAt s.image.code p (first ++ second)
      → (IsCodeAt s.image.code p first → RunsTo s n x p b (p + size first) P)
      → ((b1 : CpuState) → IsCodeAt s.image.code (p + size first) second → P b1 → RunsTo s m y (p + size first) b1 (p + size first + size second) Q)
      → RunsTo s (n + m) (x + y) p b (p + size (first ++ second)) Q
  runs_both m y Q has before after =
      let place : p + size first + size second ≡ p + size (first ++ second) = omega (arith, size-append first second) in
      to_place s _ place (and_then s m y (p + size first + size second) Q (before (stands_front s.image.code p first second has)) (λ b1 fact. after b1 (stands_back s.image.code p first second has) fact))

module _ (s : RunContext) {c : Context} {depth base : ℕ} {x : ValueOrError} {a b : CpuState} where
  -- what the earlier piece preserved is preserved when a value follows
  pub shown_behind : {n m p q : ℕ} {d : CpuState} → Preserves (variable_count c) depth base a b
      → RunsTo s n m p d q (LeavesValue c depth base x b) → RunsTo s n m p d q (LeavesValue c depth base x a)
  shown_behind kept run =
      into s (LeavesValue c depth base x a) (λ b1 g. record { shows = g.shows; fits = g.fits; keeps = keeps_then (omega arith) kept g.keeps }) run
