-- A word of the frame that keeps the value of a list of literals: it is emptied, then filled at the first evaluation.
-- For the laws in `specs/Gives/KeptLists`.
use Rattle.expression_code.proofs.Prelude.{◌≡◌, ℕ, suc, ◌+◌, ◌<◌, ◌≤◌, ◌^◌, List, [], ◌∷◌, ◌++◌, append_assoc, append-nil, length, length-append, Some, refl, sym, ap, ◌∙◌, subst, arith, inl, inr, slice_get, slice_get_within, cases_eq, Names, Insn, R0, ValueOrError, CpuState, set_register, Context, IsWellFormedState, Evaluates, LeavesValue, Preserves, RunContext, RunsTo, HoldsLists, IsEmptyOr, KeptListsGive, clear, clear_code, keeping, kept_list_code, list_value, list_word, Cores, IsCodeAt, size, set_word, word_at, variable_count, frame_words, word_limit, Ne, pos}
use Rattle.expression_code.specs.Instructions as insn
use Rattle.expression_code.proofs.Effects.{differs_no, differs_yes}
use Rattle.expression_code.proofs.Frames.{fits_registers, keeps_registers, keeps_stored, keeps_then, list_stored, shows_registers, word_stored}
use Rattle.expression_code.proofs.Listings.{begins, load, no, put, store, yes}
use Rattle.expression_code.proofs.Pieces.{size-append, stands_back, stands_front, stands_rest}
use Rattle.expression_code.proofs.Runs.{and_then, arrived, into, looser, to_place}
use Rattle.expression_code.proofs.Values.{get_at, get_before, get_front, small_reference}

-- ---- the value is used, or made and kept

module _ (s : RunContext) (p : ℕ) (c : Context) (depth base i : ℕ) (items : Cores) (made : List Insn) (n x : ℕ) (low : base ≤ word_limit) (is : slice_get c.words.lists i ≡ Some items) (gives : Evaluates s (p + 2) made c depth base (list_value items) n x) (has : IsCodeAt s.image.code p (kept_list_code (list_word i) made)) where
  abbrev k : ℕ
  k = list_word i

  abbrev v : ValueOrError
  v = list_value items

  abbrev tail : List Insn
  tail = insn.store k R0 ∷ []

  length_is : p + 2 + size made + 1 ≡ p + size (kept_list_code k made)
  length_is = omega (arith, size-append)

  abbrev with_loaded : CpuState → CpuState
  with_loaded b = set_register b R0 (word_at depth k b)

  has_rest : IsCodeAt s.image.code (p + 2) (made ++ tail)
  has_rest =
      let jump = insn.jump_if_imm Ne R0 (pos 0) (size made + 1) in
      subst (λ (q : ℕ). IsCodeAt s.image.code q (made ++ tail)) (omega arith) (stands_rest s.image.code (p + 1) jump (made ++ tail) (stands_rest s.image.code p (insn.load R0 k) (jump ∷ (made ++ tail)) has))

  -- the reference in R0 is stored
  stores : (q : ℕ) (a b : CpuState) → IsCodeAt s.image.code q tail → k < frame_words → LeavesValue c depth base v a b → RunsTo s 1 0 q b (q + 1) (LeavesValue c depth base v a)
  stores q a b here inside shown =
      let r = b.registers R0 in
      let small = small_reference b.values r v shown.fits.values.table shown.shows in
      begins here
      (store here 0 k refl shown.fits.frame inside
      (arrived s refl (record {
        shows = shown.shows;
        fits = list_stored c depth base i r b shown.fits inside (λ same at. let e : items ≡ same = cc in inr (subst (λ (u : Cores). Names b.values.values r (list_value u)) e shown.shows)) small low;
        keeps = keeps_then (omega arith) shown.keeps (keeps_stored depth k r b shown.fits.frame inside (variable_count c) base (omega arith));
      })))

  makes : (b : CpuState) → IsWellFormedState c depth base b → word_at depth k b ≡ 0 → RunsTo s (3 + n) x p b (p + 2 + size made + 1) (LeavesValue c depth base v b)
  makes b fits empty =
      let inside = (fits.holds.lists i items is).0 in
      let b1 = with_loaded b in
      looser s {n = suc (suc (n + 1))} {x = x + 0} (3 + n) x (omega arith) (omega arith)
      (begins has
      (load has 0 k refl fits.frame inside refl
      (no has 1 refl (differs_no (word_at depth k b) 0 empty)
      (and_then s 1 0 (p + 2 + size made + 1) (LeavesValue c depth base v b) (gives.runs b1 (stands_front s.image.code (p + 2) made tail has_rest) (fits_registers c depth base b _ refl fits)) (λ b2 g2.
      into s (LeavesValue c depth base v b) (λ b3 g3. record { shows = g3.shows; fits = g3.fits; keeps = keeps_then (omega arith) (keeps_registers c depth base b _ refl (variable_count c)) g3.keeps })
      (stores (p + 2 + size made) b1 b2 (stands_back s.image.code (p + 2) made tail has_rest) inside g2))))))

  uses : (b : CpuState) → IsWellFormedState c depth base b → (word_at depth k b ≡ 0 → ⊥) → RunsTo s (3 + n) x p b (p + 2 + size made + 1) (LeavesValue c depth base v b)
  uses b fits full =
      let held = fits.holds.lists i items is in
      let named : Names b.values.values (word_at depth k b) v = elim held.1 [ inl empty ↦ absurd (full empty) | inr named ↦ named ] in
      looser s {n = suc (suc 0)} {x = 0} (3 + n) x (omega arith) (omega arith)
      (begins has
      (load has 0 k refl fits.frame held.0 refl
      (yes has 1 (size made + 1) refl (differs_yes (word_at depth k b) 0 full)
      (arrived s (omega arith) (shows_registers c depth base b _ refl v fits named)))))

  kept_runs : (b : CpuState) → IsWellFormedState c depth base b → RunsTo s (3 + n) x p b (p + size (kept_list_code k made)) (LeavesValue c depth base v b)
  kept_runs b fits =
      to_place s _ length_is
      (elim (cases_eq (word_at depth k b) 0) [ inl empty ↦ makes b fits empty | inr full ↦ uses b fits full ])

-- ---- the words are emptied

-- with one more list, whose word is empty
with_one : (c : Context) (lists : List Cores) (list : Cores) (depth base : ℕ) (b : CpuState) → list_word (length lists) < frame_words
    → word_at depth (list_word (length lists)) b ≡ 0 → IsWellFormedState (keeping lists c) depth base b → IsWellFormedState (keeping (lists ++ list ∷ []) c) depth base b
with_one c lists list depth base b inside empty fits = record {
  frame = fits.frame;
  values = fits.values;
  holds = record {
    names = fits.holds.names;
    path = fits.holds.path;
    memos = fits.holds.memos;
    lists = λ j items is.
        let within = slice_get_within (lists ++ list ∷ []) j items is in
        let long = length-append lists (list ∷ []) in
        elim (cases_eq j (length lists)) [
          | inl same ↦ (let e : length lists ≡ j = sym same in subst (λ (m : ℕ). (list_word m < frame_words) × IsEmptyOr b.values.values (word_at depth (list_word m) b) (list_value items)) e (inside, inl empty))
          | inr other ↦ fits.holds.lists j items (get_front lists (list ∷ []) j items (omega arith) is)
        ];
  };
  constants = fits.constants;
}

-- with fewer lists
with_fewer : (c : Context) (lists more : List Cores) (depth base : ℕ) (x : ValueOrError) (a b : CpuState) → LeavesValue (keeping (lists ++ more) c) depth base x a b → LeavesValue (keeping lists c) depth base x a b
with_fewer c lists more depth base x a b shown = record {
  shows = shown.shows;
  fits = record {
    frame = shown.fits.frame;
    values = shown.fits.values;
    holds = record {
      names = shown.fits.holds.names;
      path = shown.fits.holds.path;
      memos = shown.fits.holds.memos;
      lists = λ j items is. shown.fits.holds.lists j items (get_before lists more j items is);
    };
    constants = shown.fits.constants;
  };
  keeps = shown.keeps;
}

-- for larger budgets
gives_looser : (s : RunContext) (p : ℕ) (piece : List Insn) (c : Context) (depth base : ℕ) (x : ValueOrError) (n m n1 : ℕ) → n ≤ n1
    → Evaluates s p piece c depth base x n m → Evaluates s p piece c depth base x n1 m
gives_looser s p piece c depth base x n m n1 le gives = record { runs = λ b has fits. looser s n1 m le (omega arith) (gives.runs b has fits) }

module _ (s : RunContext) (c : Context) (depth base : ℕ) (x : ValueOrError) (m : ℕ) (low : base ≤ word_limit) where
  one_cleared : (p : ℕ) (lists : List Cores) (list : Cores) (piece : List Insn) (n : ℕ) → list_word (length lists) < frame_words → Evaluates s (p + 1) piece (keeping (lists ++ list ∷ []) c) depth base x n m → Evaluates s p (clear (list_word (length lists)) ∷ piece) (keeping lists c) depth base x (1 + n) m
  one_cleared p lists list piece n inside gives = record {
    runs = λ b has fits.
        let k = list_word (length lists) in
        let b1 = set_word depth k 0 b in
        let fits1 = list_stored (keeping lists c) depth base (length lists) 0 b fits inside (λ items at. inl refl) (omega arith) low in
        let kept = keeps_stored depth k 0 b fits.frame inside (variable_count c) base (omega arith) in
        let place : p + 1 + size piece ≡ p + size (clear k ∷ piece) = omega arith in
        to_place s _ place
        (looser s {n = suc n} {x = m} (1 + n) m (omega arith) (omega arith)
        (begins has
        (put has 0 k refl fits.frame inside
        (into s (LeavesValue (keeping lists c) depth base x b) (λ b2 g2.
        let shown = with_fewer c lists (list ∷ []) depth base x b1 b2 g2 in record { shows = shown.shows; fits = shown.fits; keeps = keeps_then (omega arith) kept shown.keeps })
        (gives.runs b1 (stands_rest s.image.code p (clear k) piece has) (with_one c lists list depth base b1 inside (word_stored depth k 0 b fits.frame inside (omega arith)) fits1))))));
  }

  all_cleared : (p : ℕ) (lists more : List Cores) (rest : List Insn) (n : ℕ) → list_word (length lists + length more) ≤ frame_words → Evaluates s (p + length more) rest (keeping (lists ++ more) c) depth base x n m → Evaluates s p (clear_code (length lists) (length more) ++ rest) (keeping lists c) depth base x (length more + n) m
  all_cleared p lists [] rest n inside gives =
      let place : p + length {A = Cores} [] ≡ p = omega arith in
      let here = subst (λ (q : ℕ). Evaluates s q rest (keeping (lists ++ []) c) depth base x n m) place gives in
      gives_looser s p rest (keeping lists c) depth base x n m (0 + n) (omega arith)
      (subst (λ (ls : List Cores). Evaluates s p rest (keeping ls c) depth base x n m) (append-nil lists) here)
  all_cleared p lists (l ∷ more) rest n inside gives =
      let all = lists ++ l ∷ [] in
      let whole = subst (λ (ls : List Cores). Evaluates s (p + length (l ∷ more)) rest (keeping ls c) depth base x n m) (sym (append_assoc lists (l ∷ []) more)) gives in
      let place : p + length (l ∷ more) ≡ p + 1 + length more = omega arith in
      let behind = subst (λ (q : ℕ). Evaluates s q rest (keeping (all ++ more) c) depth base x n m) place whole in
      let counted = length-append lists (l ∷ []) in
      let long : length all ≡ suc (length lists) = omega (arith, counted) in
      let further = all_cleared (p + 1) all more rest n (omega (arith, long)) behind in
      let next = subst (λ (i : ℕ). Evaluates s (p + 1) (clear_code i (length more) ++ rest) (keeping all c) depth base x (length more + n) m) long further in
      gives_looser s p (clear_code (length lists) (length (l ∷ more)) ++ rest) (keeping lists c) depth base x (1 + (length more + n)) m (length (l ∷ more) + n) (omega arith)
      (one_cleared p lists l (clear_code (suc (length lists)) (length more) ++ rest) (length more + n) (omega arith) next)

pub kept_lists_give : KeptListsGive
kept_lists_give = record {
  kept = λ s p c depth base i items made n x low is gives. record { runs = λ b has fits. kept_runs s p c depth base i items made n x low is gives has b fits };
  cleared = λ s p c depth base lists rest x n m low inside gives. all_cleared s c depth base x m low p [] lists rest n (omega arith) gives;
}
