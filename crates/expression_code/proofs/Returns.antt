-- The routine of a variable returns to its caller with the value, and the memo is filled.
use Rattle.expression_code.proofs.Prelude.{◌≡◌, ℕ, ◌+◌, ◌<◌, ◌≤◌, List, [], ◌∷◌, ◌++◌, length, length-append, Some, Bool, refl, sym, ap, ◌∙◌, subst, arith, inl, inr, slice_get, cases_eq, cases_lt, length-map, Insn, R0, R1, R2, Image, Value, ValueOrError, Roots, Names, CpuState, set_register, entered, resumed, Context, IsWellFormedState, Evaluates, IsMemo, LeavesValue, RunsToWith, RunContext, FirstUse, FrameUse, IsCodeAt, size, RoutineReturns, Variable, bindings, memo_tail, routine_context, used_context, with_variables, Framed, memo_address, memo_at, set_memo, same, word_limit, record_limit, memo_limit, HoldsLists, IsEmptyOr, list_value, list_word, Cores}
use Rattle.expression_code.proofs.Sites.{in_frame}
use Rattle.expression_code.proofs.Effects.{add_is}
use Rattle.expression_code.proofs.Frames.{fits_on, frame_with, frame_memo, memo_kept, memo_stored}
use Rattle.expression_code.proofs.Listings.{alu, begins, load_wide, mov, store_memo}
use Rattle.expression_code.proofs.Pieces.{stands_back, stands_front}
use Rattle.expression_code.proofs.Runs.{and_back, into}
use Rattle.expression_code.proofs.Steps as step
use Rattle.expression_code.proofs.Values.{get_at, get_before, get_front, short_reference}

module _ (image : Image) (deep : Bool) (paid : List FirstUse) (constants : List ℕ) (words : FrameUse) (roots : Roots) (items : List (List ℕ × Value)) (variables later : List (List ℕ × ValueOrError)) (name : List ℕ) (v : ValueOrError) (body : List Insn) (routine depth base n x : ℕ) (below : length variables < memo_limit) (low : base ≤ word_limit) (room : depth < record_limit) (there : IsCodeAt image.code routine (body ++ memo_tail (length variables))) where
  abbrev index : ℕ
  index = length variables

  abbrev c : Context
  c = used_context roots items words constants (variables ++ (name, v) ∷ later)

  abbrev before : Context
  before = routine_context roots variables constants

  abbrev inner_setting : RunContext
  inner_setting = with_variables image deep paid

  -- back in the caller's frame the memo is filled, and the later memos are unchanged
  pub record Back (caller last : CpuState) : Type 0 where
    pub shown : LeavesValue c depth base v caller last
    pub filled : memo_at index last ≡ last.registers R0 + 1
    pub others : (j : ℕ) → index < j → memo_at j last ≡ memo_at j caller

  module _ (caller : CpuState) (fits : IsWellFormedState c depth base caller) (q : ℕ) where
    fits_entered : IsWellFormedState before (depth + 1) 0 (entered q caller)
    fits_entered = record {
      frame = grind (arith, length-append);
      values = fits.values;
      holds = record { names = λ m. tt; path = λ y at. absurd (cc); memos = λ j y is. fits.holds.memos j y (get_before variables ((name, v) ∷ later) j y is); lists = λ j items is. absurd (cc) };
      constants = fits.constants;
    }

    module _ (b3 : CpuState) (g3 : LeavesValue before (depth + 1) 0 v (entered q caller) b3) where
      abbrev r : ℕ
      r = b3.registers R0

      -- the memo is filled
      abbrev filled_body : CpuState
      filled_body = set_memo index (r + 1) (set_register (set_register (set_register b3 R2 r) R2 (r + 1)) R1 (memo_address index))

      -- the caller continues
      abbrev last : CpuState
      last = resumed caller filled_body

      other_memo : (j : ℕ) → (j ≡ index → ⊥) → memo_at j last ≡ memo_at j b3
      other_memo j other = memo_kept (depth + 1) index (r + 1) b3 g3.fits.frame below j other

      later_memo : (j : ℕ) → index < j → memo_at j last ≡ memo_at j caller
      later_memo j above = other_memo j (λ e. omega arith) ∙ g3.keeps.memos j (omega arith)

      this_memo : memo_at index last ≡ r + 1
      this_memo = let short = short_reference b3.values r v g3.fits.values.table g3.shows in memo_stored (depth + 1) index (r + 1) b3 g3.fits.frame below
          (omega arith)

      holds_memo : (j : ℕ) (y : List ℕ × ValueOrError) → slice_get (variables ++ (name, v) ∷ later) j ≡ Some y → IsMemo b3.values.values (memo_at j last) y.1
      holds_memo j y is = grind (arith, cases_lt, other_memo, get_front, later_memo, get_at, this_memo)

      -- the words of the caller's frame are unchanged
      held_lists : HoldsLists words.lists depth last
      held_lists i items is =
          let held = fits.holds.lists i items is in
          let unchanged = g3.keeps.words depth (list_word i) held.0 (inl (omega arith)) in (
            held.0,
            subst (λ (w : ℕ). IsEmptyOr b3.values.values w (list_value items)) (sym unchanged)
                (elim held.1 [ inl empty ↦ inl empty | inr named ↦ inr (g3.keeps.values _ (list_value items) named) ]),
          )

      back : Back caller last
      back = record {
        shown = record {
          shows = g3.shows;
          fits =
              let frame : Framed depth last = frame_with depth caller _ fits.frame (frame_memo (depth + 1) index (r + 1) b3 g3.fits.frame below).memory in
              fits_on (in_frame c depth base) base caller last (omega arith) fits frame g3.fits.values (g3.keeps.constants ∙ fits.constants)
              (λ k u inside named. subst (λ (w : ℕ). Names b3.values.values w u) (sym (g3.keeps.words depth k (omega arith) (inl (omega arith))))
              (g3.keeps.values _ u named)) holds_memo held_lists;
          keeps = record {
            words = λ d k inside h. g3.keeps.words d k inside (inl (elim h [ inl lower ↦ omega arith | inr same ↦ (let level = same.0 in omega arith) ]));
            values = g3.keeps.values;
            records = refl;
            pointer = refl;
            verdict = g3.keeps.verdict;
            constants = g3.keeps.constants;
            memos = λ j above. later_memo j (let long = length-append variables ((name, v) ∷ later) in omega arith);
          };
        };
        filled = this_memo;
        others = later_memo;
      }

    pub comes_back : Evaluates inner_setting routine body before (depth + 1) 0 v n x → RunsToWith inner_setting (n + 5) (x + 0) routine (entered q caller) caller.records (q + 1) (Back caller)
    comes_back g =
        let s = inner_setting in
        let has_tail = stands_back image.code routine body (memo_tail index) there in
        and_back s 5 0 (q + 1) (Back caller) (g.runs (entered q caller) (stands_front image.code routine body (memo_tail index) there) fits_entered) (λ b3 g3.
        let r = b3.registers R0 in
        let short = short_reference b3.values r v g3.fits.values.table g3.shows in
        begins has_tail
        (mov has_tail 0 refl refl
        (alu has_tail 1 (r + 1) refl refl (add_is r 1 ∙ omega arith)
        (load_wide has_tail 2 refl refl
        (store_memo has_tail 4 index refl g3.fits.frame below refl (grind (arith, cases_eq, this_memo, other_memo))
        (step.exit s (routine + size body + 5) (q + 1) (filled_body b3 g3) caller q (has_tail.here 5 _ refl) g3.keeps.records g3.keeps.pointer (omega arith) refl
        (back b3 g3)))))))

pub routine_returns : RoutineReturns
routine_returns image deep paid roots constants scope v words items frame base stands gives near low room q b fits =
    let count : length (bindings scope) ≡ length scope = length-map scope (λ (u : Variable). (u.name, u.value)) in
    let there = subst (λ (i : ℕ). IsCodeAt image.code v.routine (v.body ++ memo_tail i)) (sym count) stands in
    let s = with_variables image deep paid in
    let c = used_context roots items words constants (bindings scope ++ (v.name, v.value) ∷ []) in
    let even : v.charge + 0 ≡ v.charge = omega arith in
    subst (λ (m : ℕ). RunsToWith s (v.steps + 5) m v.routine (entered q b) b.records (q + 1) (λ new. LeavesValue c frame base v.value b new × (memo_at (length scope) new ≡ new.registers R0 + 1))) even
    (into s (λ new. LeavesValue c frame base v.value b new × (memo_at (length scope) new ≡ new.registers R0 + 1)) (λ new last. (last.shown, ap (λ (i : ℕ). memo_at i new) (sym count) ∙ last.filled))
    (comes_back image deep paid constants words roots items (bindings scope) [] v.name v.value v.body v.routine frame base v.steps v.charge (omega arith) low room there b fits q gives))
