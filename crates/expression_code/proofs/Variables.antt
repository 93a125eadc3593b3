-- The use of a variable gives its value; the cost of its first use is paid in addition to its budgets.
use Rattle.expression_code.proofs.Prelude.{◌≡◌, ℕ, ◌+◌, ◌<◌, ◌≤◌, List, [], ◌∷◌, ◌++◌, length, append_assoc, Bool, sym, ap, ◌∙◌, subst, arith, ◌-◌, ◌^◌, refl, inl, inr, ℤ, pos, ◌+ℤ◌, Some, word_in, CallLocal, Image, fetched, State, next_state, state_after, Frame, CpuState, at, set_register, entered, frame_at, RunContext, RunEnds, Faulted, Arrived, RunsTo, RunsToWith, FirstUse, first_uses, with_variables, VariableGives, memo_tail, routine_context, use_code, used_context, Framed, memo_at, memo_address, nat_tests, Insn, R0, R1, Value, ValueOrError, Roots, FrameUse, IsCodeAt, Context, IsWellFormedState, Evaluates, LeavesValue, Names, record_limit, memo_limit, word_limit}
use Rattle.expression_code.proofs.Effects.{call_local_does, does, add_is, differs_no, differs_yes}
use Rattle.expression_code.proofs.FirstUses.{uses-more_calls, uses-with}
use Rattle.expression_code.proofs.Runs.{over, state_after-first, to_place, done, into, looser}
use Rattle.expression_code.proofs.Frames.{fits_registers, shows_registers}
use Rattle.expression_code.proofs.Values.{get_at, short_reference}
use Rattle.expression_code.proofs.Listings.{alu, begins, load_memo, load_wide, no, yes}
use Rattle.expression_code.proofs.Returns.{comes_back}

-- ---- the first call of a variable's routine: its cost is paid as the variable's first use

module _ (image : Image) (deep : Bool) (before later : List FirstUse) (v : FirstUse) (q : ℕ) (b : CpuState) (offset : ℤ) (call : fetched image.code (pos q) ≡ Some (Some (CallLocal offset))) (place : pos q +ℤ pos 1 +ℤ offset ≡ pos v.routine) (empty : memo_at (length before) b ≡ 0) where
  abbrev outer : RunContext
  outer = with_variables image deep (before ++ v ∷ later)

  -- in a run that has stopped, the routine is open
  paid_open : (cost : FirstUse → ℕ) (scratch : List ℕ) (calls : List Frame) → first_uses image before cost b.memory.scratch scratch calls + cost v ≤ first_uses image (before ++ v ∷ later) cost b.memory.scratch scratch (frame_at q b ∷ calls)
  paid_open cost scratch calls = grind (arith, nat_tests, uses-with, uses-more_calls)

  -- in a run that has returned, the memo is filled
  paid_filled : (cost : FirstUse → ℕ) (scratch : List ℕ) → (word_in scratch (length before) ≡ 0 → ⊥)
      → first_uses image before cost b.memory.scratch scratch [] + cost v ≤ first_uses image (before ++ v ∷ later) cost b.memory.scratch scratch []
  paid_filled cost scratch filled = grind (arith, uses-with, nat_tests)

  ends_called : {n x k p : ℕ} {Q : CpuState → Type 0} {t : State} → n ≤ v.steps → x ≤ v.charge → ((last : CpuState) → Q last → memo_at (length before) last ≡ 0 → ⊥) → RunEnds (with_variables image deep before) n x (entered q b) b.records p Q k t → RunEnds outer 1 0 b b.records p Q (1 + k) t
  ends_called {t = t} hn hx filled (Faulted calls e frames f l o) =
      let steps = paid_open (λ u. u.steps) t.memory.scratch calls in
      let charge = paid_open (λ u. u.charge) t.memory.scratch calls in
      Faulted (frame_at q b ∷ calls) e (frames ∙ append_assoc b.records (frame_at q b ∷ []) calls) f (omega arith) (over outer _ _ (omega arith) o)
  ends_called hn hx filled (Arrived last e frames f l o fact) =
      let steps = paid_filled (λ u. u.steps) last.memory.scratch (filled last fact) in
      let charge = paid_filled (λ u. u.charge) last.memory.scratch (filled last fact) in
      Arrived last e frames f (omega arith) (omega arith) fact

  -- the call and the routine within 1 step
  pub first_called : {n x p : ℕ} {Q : CpuState → Type 0} (depth : ℕ) → Framed depth b → depth < record_limit → n ≤ v.steps → x ≤ v.charge → ((last : CpuState) → Q last → memo_at (length before) last ≡ 0 → ⊥) → RunsToWith (with_variables image deep before) n x v.routine (entered q b) b.records p Q → RunsTo outer 1 0 q b p Q
  first_called {p = p} {Q = Q} depth framed room hn hx filled c =
      let calls : next_state (at image q b) ≡ at image v.routine (entered q b) = does image q b _ call ∙ call_local_does image q b depth offset v.routine framed room place in
      let twice : 1 + c.steps ≡ c.steps + 1 = omega arith in
      let after : state_after (1 + c.steps) (at image q b) ≡ state_after c.steps (at image v.routine (entered q b)) = ap (λ (k : ℕ). state_after k (at image q b)) twice ∙ state_after-first c.steps (at image q b) ∙ ap (state_after c.steps) calls in
      record { steps = 1 + c.steps; ends = subst (RunEnds outer 1 0 b b.records p Q (1 + c.steps)) (sym after) (ends_called hn hx filled c.ends) }

-- ---- the memo is filled

module _ (s : RunContext) (c : Context) (depth base i p : ℕ) (offset : ℤ) (has : IsCodeAt s.image.code p (use_code i offset)) (below : i < memo_limit) (b : CpuState) (fits : IsWellFormedState c depth base b) where
  filled_runs : (r : ℕ) (v : ValueOrError) → memo_at i b ≡ r + 1 → Names b.values.values r v → RunsTo s 4 0 p b (p + 6) (LeavesValue c depth base v b)
  filled_runs r v word named =
      let short = short_reference b.values r v fits.values.table named in
      begins has
      (load_wide has 0 refl refl
      (load_memo has 2 i refl fits.frame below refl refl
      (alu has 3 r refl refl (add_is (memo_at i b) (2 ^ 64 - 1) ∙ (omega arith))
      (yes has 4 1 refl (differs_yes r (2 ^ 64 - 1) (λ e. omega arith))
      (done s (p + 6) _ _ (shows_registers c depth base b _ refl v fits named))))))

-- ---- the memo is empty

module _ (image : Image) (deep : Bool) (before behind : List FirstUse) (constants : List ℕ) (words : FrameUse) (roots : Roots) (items : List (List ℕ × Value)) (variables later : List (List ℕ × ValueOrError)) (name : List ℕ) (v : ValueOrError) (body : List Insn) (routine p depth base n x : ℕ) (offset : ℤ) (as_many : length before ≡ length variables) (below : length variables < memo_limit) (low : base ≤ word_limit) (room : depth < record_limit) (place : pos (p + 5) +ℤ pos 1 +ℤ offset ≡ pos routine) (there : IsCodeAt image.code routine (body ++ memo_tail (length variables))) (has : IsCodeAt image.code p (use_code (length variables) offset)) where
  abbrev index : ℕ
  index = length variables

  abbrev c : Context
  c = used_context roots items words constants (variables ++ (name, v) ∷ later)

  abbrev first : FirstUse
  first = record { routine = routine; steps = n + 9; charge = x }

  abbrev setting : RunContext
  setting = with_variables image deep (before ++ first ∷ behind)

  -- the routine's caller
  abbrev caller : CpuState → CpuState
  caller b = set_register (set_register (set_register b R1 (memo_address index)) R0 (memo_at index b)) R0 (2 ^ 64 - 1)

  -- the routine is called and returns
  first_runs : (b : CpuState) → IsWellFormedState c depth base b → memo_at index b ≡ 0 → Evaluates (with_variables image deep before) routine body (routine_context roots variables constants) (depth + 1) 0 v n x → RunsTo setting 5 0 p b (p + 6) (LeavesValue c depth base v b)
  first_runs b fits empty g =
      let start = caller b in
      let ready = (fits_registers c depth base b _ refl fits) in
      let same_place = ap (λ (i : ℕ). memo_at i b) as_many in
      begins has
      (load_wide has 0 refl refl
      (load_memo has 2 index refl fits.frame below refl refl
      (alu has 3 (2 ^ 64 - 1) refl refl (add_is (memo_at index b) (2 ^ 64 - 1) ∙ (omega arith))
      (no has 4 refl (differs_no (2 ^ 64 - 1) (2 ^ 64 - 1) refl)
      (into setting (LeavesValue c depth base v b) (λ last back. grind arith)
      (first_called image deep before behind first (p + 5) start offset (has.here 5 _ refl) place (same_place ∙ empty) depth ready.frame room (omega arith) (omega arith)
      (λ last back none. let filled = back.filled in let there_is = ap (λ (i : ℕ). memo_at i last) as_many in absurd (omega arith))
      (to_place (with_variables image deep before) (p + 6) (omega arith)
      (comes_back image deep before constants words roots items variables later name v body routine depth base n x below low room there start ready (p + 5) g))))))))

  use_runs : (b : CpuState) → IsWellFormedState c depth base b → Evaluates (with_variables image deep before) routine body (routine_context roots variables constants) (depth + 1) 0 v n x → RunsTo setting 5 0 p b (p + 6) (LeavesValue c depth base v b)
  use_runs b fits g =
      elim (fits.holds.memos index (name, v) (get_at variables later (name, v))) [
        | inl empty ↦ first_runs b fits empty g
        | inr full ↦ looser setting 5 0 (omega arith) (omega arith) (filled_runs setting c depth base index p offset has below b fits full.0 v full.1 full.2)
      ]

pub variable_gives : VariableGives
variable_gives image deep before behind constants words roots items variables later name v body routine p depth base n x offset as_many below low room place there g = record {
  runs = λ b has fits. use_runs image deep before behind constants words roots items variables later name v body routine p depth base n x offset as_many below low room place there has b fits g;
}
