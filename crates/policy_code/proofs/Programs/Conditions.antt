-- The conditions of a policy's program, in order, and what they decide.
use Rattle.policy_code.proofs.Prelude.{◌≡◌, ℕ, ◌+◌, List, [], Some, refl, subst, sym, arith, ◌∷◌, ◌++◌, Bool, true, false, true≢false, None, Option, ap, ◌∙◌, pos, ◌||◌, map, if◌then◌else◌, w64, cast_unsigned, Exit, R0, R1, R2, ValueOrError, fetched, CpuState, set_register, Context, RunContext, RunsTo, IsCodeAt, size, set_verdict, verdict_address, begins, load_wide, mov, no, yes, done, looser, and_then, into, to_place, outcome_word, condition_tail, conditions_code, decided_code, decided_tail, Finding, Outcome, Skipped, Holds, Fails, Errs, truth_of, undecided, CheckResult, is_failed, is_held, decided_before, FailurePolicy, list_any, list_all, Insn, size-append, stands_back, stands_front, ConditionsGive, Part, PartGives, codes_of, conditions_charge, conditions_steps, decided_slots, equal_no, equal_yes}
use Rattle.policy_code.proofs.Programs.Words.{Judges, Marked, marks_registers, outcome_stored, tested, marks_shown, store_verdict, load_verdict}

-- the outcome is in the verdict region and in R0
pub record Ends (c : Context) (f : FailurePolicy) (outcome : Outcome) (xs : List Finding) (b : CpuState) : Type 0 where
  pub marked : Marked c f (outcome_word outcome) xs b
  pub answers : b.registers R0 ≡ outcome_word outcome

module _ (s : RunContext) (c : Context) (f : FailurePolicy) (o w : ℕ) (has : IsCodeAt s.image.code o (condition_tail f)) (x : ValueOrError) (b : CpuState) (judges : Judges c f w [] x b) where
  -- a CPU state with other registers, and then with another outcome
  pub condition_holds : truth_of x ≡ Holds → RunsTo s 6 0 o b (o + 9) (Marked c f w [])
  unfolding condition_tail
  condition_holds is =
      let t = tested c x Holds b judges.marked.fits judges.named is in
      looser s 6 0 (omega arith) (omega arith) (begins has
      (yes has 0 8 refl t.held
      (done s (o + 9) b (Marked c f w []) judges.marked)))

  pub condition_errs : truth_of x ≡ Errs → RunsTo s 6 0 o b (o + 9) (Marked c f (outcome_word (undecided f)) [])
  unfolding condition_tail
  condition_errs is =
      let t = tested c x Errs b judges.marked.fits judges.named is in
      let word = outcome_word (undecided f) in
      let loaded = set_register (set_register b R2 (cast_unsigned w64 (pos word))) R1 (verdict_address 0) in
      let marks = marks_registers judges.marked loaded.registers refl in
      let stored = outcome_stored marks word (grind arith) in
      looser s 6 0 (omega arith) (omega arith) (begins has
      (no has 0 refl t.held
      (mov has 1 refl refl
      (load_wide has 2 refl refl
      (yes has 4 3 refl t.not_failed
      (store_verdict has 8 0 refl marks.fits.frame (omega arith) refl
      (done s (o + 9) (set_verdict 0 (cast_unsigned w64 (pos word)) loaded) (Marked c f word []) (subst (λ (v : ℕ). Marked c f word [] (set_verdict 0 v loaded)) (sym (grind arith)) stored))))))))

  pub condition_fails : truth_of x ≡ Fails → RunsTo s 6 0 o b (o + 7) (Ends c f Skipped [])
  unfolding condition_tail
  condition_fails is =
      let t = tested c x Fails b judges.marked.fits judges.named is in
      let word = outcome_word (undecided f) in
      let loaded = set_register (set_register (set_register b R2 (cast_unsigned w64 (pos word))) R1 (verdict_address 0)) R0 1 in
      let marks = marks_registers judges.marked loaded.registers refl in
      let stored = outcome_stored marks 1 (omega arith) in
      begins has
      (no has 0 refl t.held
      (mov has 1 refl refl
      (load_wide has 2 refl refl
      (no has 4 refl t.not_failed
      (mov has 5 refl refl
      (store_verdict has 6 0 refl marks.fits.frame (omega arith) refl
      (done s (o + 7) (set_verdict 0 1 loaded) (Ends c f Skipped []) (record { marked = stored; answers = refl }))))))))

-- the exit of a condition that is false
pub exit_stands : (code : List ℕ) (f : FailurePolicy) (o : ℕ) → IsCodeAt code o (condition_tail f) → fetched code (pos (o + 7)) ≡ Some (Some Exit)
unfolding condition_tail
exit_stands code f o has = has.here 7 Exit refl

-- an expression has run among the others
pub part_runs : (s : RunContext) (c : Context) (f : FailurePolicy) (w p : ℕ) (xs : List Finding) (a : Part) (b : CpuState) → IsCodeAt s.image.code p a.code
    → PartGives s c p a → Marked c f w xs b → RunsTo s a.steps a.charge p b (p + size a.code) (Judges c f w xs a.value)
part_runs s c f w p xs a b has gives marked =
    into s (Judges c f w xs a.value) (λ last shown. record { marked = marks_shown marked a.value last shown; named = shown.shows }) (gives.runs b has marked.fits)

pub tail_size : (f : FailurePolicy) → size (condition_tail f) ≡ 9
unfolding condition_tail
tail_size f = refl

pub condition_size : (f : FailurePolicy) (condition rest : List Insn) → size (condition ++ (condition_tail f ++ rest)) ≡ size condition + (9 + size rest)
condition_size f condition rest = grind (arith, size-append, tail_size)

-- the stored outcome after the conditions, if none is false
abbrev pub stands_after : FailurePolicy → ℕ → List CheckResult → ℕ
stands_after f w [] = w
stands_after f w (t ∷ more) = stands_after f (if is_held t then w else outcome_word (undecided f)) more

abbrev pub truths_of : List Part → List CheckResult
truths_of parts = map (λ a. truth_of a.value) parts

-- the slot that a list of conditions reaches: the exit of the first false one, or else the slot after all of them
abbrev pub row_end : ℕ → List Part → ℕ
row_end p [] = p
row_end p (a ∷ more) = if is_failed (truth_of a.value) then p + size a.code + 7 else row_end (p + size a.code + 9) more

-- if one is false the program ends, else this outcome is stored
abbrev pub RowLeft : Context → FailurePolicy → Bool → ℕ → CpuState → Type 0
RowLeft c f true w = Ends c f Skipped []
RowLeft c f false w = Marked c f w []

pub row_end_is : (f : FailurePolicy) (parts : List Part) (p : ℕ) → list_any is_failed (truths_of parts) ≡ false
    → row_end p parts ≡ p + size (conditions_code f (codes_of parts))
unfolding conditions_code
row_end_is f [] p none = omega arith
row_end_is f (a ∷ more) p none = grind (arith, row_end_is f more (p + size a.code + 9), condition_size)

module _ (s : RunContext) (c : Context) (f : FailurePolicy) where
  -- the first condition of a list, and the conditions after it
  module _ (p : ℕ) (a : Part) (more : List Part) (has : IsCodeAt s.image.code p (conditions_code f (codes_of (a ∷ more)))) where
    abbrev tail_slot : ℕ
    tail_slot = p + size a.code

    code_stands : IsCodeAt s.image.code p a.code
    unfolding conditions_code
    code_stands = stands_front s.image.code p a.code (condition_tail f ++ conditions_code f (codes_of more)) has

    behind_stands : IsCodeAt s.image.code tail_slot (condition_tail f ++ conditions_code f (codes_of more))
    unfolding conditions_code
    behind_stands = stands_back s.image.code p a.code (condition_tail f ++ conditions_code f (codes_of more)) has

    tail_stands : IsCodeAt s.image.code tail_slot (condition_tail f)
    tail_stands = stands_front s.image.code tail_slot (condition_tail f) (conditions_code f (codes_of more)) behind_stands

    more_stands : IsCodeAt s.image.code (tail_slot + 9) (conditions_code f (codes_of more))
    more_stands =
        subst (λ (n : ℕ). IsCodeAt s.image.code (tail_slot + n) (conditions_code f (codes_of more))) (tail_size f)
        (stands_back s.image.code tail_slot (condition_tail f) (conditions_code f (codes_of more)) behind_stands)

    -- the run of the other conditions
    abbrev Later : ℕ → CpuState → Type 0
    Later w b1 = RunsTo s (conditions_steps more) (conditions_charge more) (tail_slot + 9) b1 (row_end (tail_slot + 9) more)
        (RowLeft c f (list_any is_failed (truths_of more)) (stands_after f w (truths_of more)))

    module _ (w : ℕ) (b : CpuState) (gives : PartGives s c p a) (marked : Marked c f w [] b) where
      judged : RunsTo s a.steps a.charge p b tail_slot (Judges c f w [] a.value)
      judged = part_runs s c f w p [] a b code_stands gives marked

      passes_on : (w1 : ℕ) → ((b1 : CpuState) → Judges c f w [] a.value b1 → RunsTo s 6 0 tail_slot b1 (tail_slot + 9) (Marked c f w1 []))
          → ((b1 : CpuState) → Marked c f w1 [] b1 → Later w1 b1)
          → RunsTo s (conditions_steps (a ∷ more)) (conditions_charge (a ∷ more)) p b (row_end (tail_slot + 9) more)
          (RowLeft c f (list_any is_failed (truths_of more)) (stands_after f w1 (truths_of more)))
      passes_on w1 passes later =
          looser s {n = a.steps + 6 + conditions_steps more} {x = a.charge + 0 + conditions_charge more} _ _ (omega arith) (omega arith)
          (and_then s (conditions_steps more) (conditions_charge more) (row_end (tail_slot + 9) more) _
          (and_then s 6 0 (tail_slot + 9) (Marked c f w1 []) judged passes) later)

      one_runs : (t : CheckResult) → truth_of a.value ≡ t → ((w1 : ℕ) (b1 : CpuState) → Marked c f w1 [] b1 → Later w1 b1)
          → RunsTo s (conditions_steps (a ∷ more)) (conditions_charge (a ∷ more)) p b (if is_failed t then tail_slot + 7 else row_end (tail_slot + 9) more)
          (RowLeft c f (is_failed t || list_any is_failed (truths_of more))
          (stands_after f (if is_held t then w else outcome_word (undecided f)) (truths_of more)))
      one_runs Fails is later =
          looser s {n = a.steps + 6} {x = a.charge + 0} _ _ (omega arith) (omega arith)
          (and_then s 6 0 (tail_slot + 7) (Ends c f Skipped []) judged (λ b1 judges. condition_fails s c f tail_slot w tail_stands a.value b1 judges is))
      one_runs Holds is later = passes_on w (λ b1 judges. condition_holds s c f tail_slot w tail_stands a.value b1 judges is) (later w)
      one_runs Errs is later =
          passes_on (outcome_word (undecided f)) (λ b1 judges. condition_errs s c f tail_slot w tail_stands a.value b1 judges is)
          (later (outcome_word (undecided f)))

  -- a list of conditions
  pub row_runs : (parts : List Part) (p w : ℕ) (b : CpuState) → IsCodeAt s.image.code p (conditions_code f (codes_of parts)) → ConditionsGive s c p parts
      → Marked c f w [] b
      → RunsTo s (conditions_steps parts) (conditions_charge parts) p b (row_end p parts)
      (RowLeft c f (list_any is_failed (truths_of parts)) (stands_after f w (truths_of parts)))
  row_runs [] p w b has gives marked = done s p b (Marked c f w []) marked
  row_runs (a ∷ more) p w b has gives marked =
      one_runs p a more has w b gives.0 marked (truth_of a.value) refl (λ w1 b1 marked1.
      row_runs more (p + size a.code + 9) w1 b1 (more_stands p a more has) gives.1 marked1)

  pub exit_here : (parts : List Part) (p : ℕ) → list_any is_failed (truths_of parts) ≡ true → IsCodeAt s.image.code p (conditions_code f (codes_of parts))
      → fetched s.image.code (pos (row_end p parts)) ≡ Some (Some Exit)
  exit_here [] p some has = absurd (true≢false (sym some))
  exit_here (a ∷ more) p some has =
      grind (arith, exit_here more (p + size a.code + 9), more_stands p a more has, exit_stands s.image.code f (p + size a.code) (tail_stands p a more has))

-- from slot p with CPU state b the machine runs to an exit with the fact Q
pub record Exits (s : RunContext) (n x p : ℕ) (b : CpuState) (Q : CpuState → Type 0) : Type 0 where
  pub place : ℕ
  pub comes : RunsTo s n x p b place Q
  pub here : fetched s.image.code (pos place) ≡ Some (Some Exit)

-- ---- the stored outcome

stands_is : (f : FailurePolicy) (w : ℕ) (ts : List CheckResult) → stands_after f w ts ≡ (if list_all is_held ts then w else outcome_word (undecided f))
stands_is f w [] = refl
stands_is f w (t ∷ more) = stands_is f (if is_held t then w else outcome_word (undecided f)) more ∙ (grind arith)

-- ---- the code after all conditions

module _ (s : RunContext) (c : Context) (f : FailurePolicy) (o : ℕ) (has : IsCodeAt s.image.code o decided_tail) (b : CpuState) where
  runs_on : Marked c f 0 [] b → RunsTo s 3 0 o b (o + 5) (Marked c f 0 [])
  runs_on marked =
      begins has
      (load_wide has 0 refl refl
      (load_verdict has 2 0 0 0 refl marked.fits.frame (omega arith) (omega arith) refl refl
      (yes has 3 1 refl (equal_yes _ 0 marked.words.outcome_is)
      (done s (o + 5) _ (Marked c f 0 []) (marks_registers marked _ refl)))))

  stops_at : (outcome : Outcome) → Marked c f (outcome_word outcome) [] b → RunsTo s 3 0 o b (o + 4) (Ends c f outcome [])
  stops_at outcome marked =
      begins has
      (load_wide has 0 refl refl
      (load_verdict has 2 0 0 0 refl marked.fits.frame (omega arith) (omega arith) refl refl
      (no has 3 refl (equal_no _ 0 (λ e. grind arith))
      (done s (o + 4) _ (Ends c f outcome []) (record { marked = marks_registers marked _ refl; answers = marked.words.outcome_is })))))

-- ---- if there are conditions

pub decided_size : (parts : List Part) → size (decided_code (codes_of parts)) ≡ decided_slots parts
decided_size parts = grind arith

-- without conditions nothing can end the program
tail_is : (parts : List Part) → list_all is_held (truths_of parts) ≡ false → decided_code (codes_of parts) ≡ decided_tail
tail_is [] e = absurd (true≢false e)
tail_is (a ∷ more) e = refl

goes_on : (s : RunContext) (c : Context) (f : FailurePolicy) (parts : List Part) (o : ℕ) (b : CpuState) → IsCodeAt s.image.code o (decided_code (codes_of parts))
    → Marked c f 0 [] b → RunsTo s 3 0 o b (o + decided_slots parts) (Marked c f 0 [])
goes_on s c f [] o b has marked =
    looser s {n = 0} {x = 0} 3 0 (omega arith) (omega arith) (to_place s (o + 0) (omega arith) (done s o b (Marked c f 0 []) marked))
goes_on s c f (a ∷ more) o b has marked = runs_on s c f o has b marked

-- ---- all conditions, and the code after them

module _ (s : RunContext) (c : Context) (f : FailurePolicy) (parts : List Part) (p : ℕ) (b : CpuState) (has : IsCodeAt s.image.code p (conditions_code f (codes_of parts) ++ decided_code (codes_of parts))) (gives : ConditionsGive s c p parts) (marked : Marked c f 0 [] b) where
  abbrev row : List Insn
  row = conditions_code f (codes_of parts)

  abbrev end : ℕ
  end = p + size row

  row_stands : IsCodeAt s.image.code p row
  row_stands = stands_front s.image.code p row (decided_code (codes_of parts)) has

  decided_stands : IsCodeAt s.image.code end (decided_code (codes_of parts))
  decided_stands = stands_back s.image.code p row (decided_code (codes_of parts)) has

  -- none is false
  passes : (w : ℕ) → list_any is_failed (truths_of parts) ≡ false → stands_after f 0 (truths_of parts) ≡ w
      → RunsTo s (conditions_steps parts) (conditions_charge parts) p b end (Marked c f w [])
  passes w none stands =
      to_place s end (row_end_is f parts p none) (rw (none, stands) at (row_runs s c f parts p 0 b row_stands gives marked))

  stands_by : (all : Bool) → list_all is_held (truths_of parts) ≡ all → stands_after f 0 (truths_of parts) ≡ (if all then 0 else outcome_word (undecided f))
  stands_by all e = stands_is f 0 (truths_of parts) ∙ ap (λ (t : Bool). if t then 0 else outcome_word (undecided f)) e

  pass_by : (any all : Bool) → list_any is_failed (truths_of parts) ≡ any → list_all is_held (truths_of parts) ≡ all
      → ◌≡◌ {A = Option Outcome} (if any then Some Skipped else (if all then None else Some (undecided f))) None
      → RunsTo s (conditions_steps parts + 3) (conditions_charge parts + 0) p b (end + decided_slots parts) (Marked c f 0 [])
  pass_by false true is_any is_all e =
      and_then s 3 0 (end + decided_slots parts) (Marked c f 0 []) (passes 0 is_any (stands_by true is_all)) (λ b1 marked1.
      goes_on s c f parts end b1 decided_stands marked1)
  pass_by _ _ is_any is_all e = absurd (cc)

  -- the policy runs
  pub conditions_pass : decided_before f (truths_of parts) ≡ None
      → RunsTo s (conditions_steps parts + 3) (conditions_charge parts + 0) p b (end + decided_slots parts) (Marked c f 0 [])
  conditions_pass e = pass_by (list_any is_failed (truths_of parts)) (list_all is_held (truths_of parts)) refl refl e

  end_by : (any all : Bool) (outcome : Outcome) → list_any is_failed (truths_of parts) ≡ any → list_all is_held (truths_of parts) ≡ all
      → (if any then Some Skipped else (if all then None else Some (undecided f))) ≡ Some outcome
      → Exits s (conditions_steps parts + 3) (conditions_charge parts + 0) p b (Ends c f outcome [])
  end_by true all outcome is_any is_all e =
      let same : Skipped ≡ outcome = cc in
      subst (λ (o : Outcome). Exits s (conditions_steps parts + 3) (conditions_charge parts + 0) p b (Ends c f o [])) same (record {
        place = row_end p parts;
        comes = looser s (conditions_steps parts + 3) (conditions_charge parts + 0) (omega arith) (omega arith) (rw is_any at (row_runs s c f parts p 0 b row_stands gives marked));
        here = exit_here s c f parts p is_any row_stands;
      })
  end_by false true outcome is_any is_all e = absurd (cc)
  end_by false false outcome is_any is_all e =
      let same : undecided f ≡ outcome = cc in
      let tail = subst (IsCodeAt s.image.code end) (tail_is parts is_all) decided_stands in
      subst (λ (o : Outcome). Exits s (conditions_steps parts + 3) (conditions_charge parts + 0) p b (Ends c f o [])) same (record {
        place = end + 4;
        comes =
            and_then s 3 0 (end + 4) (Ends c f (undecided f) []) (passes (outcome_word (undecided f)) is_any (stands_by false is_all)) (λ b1 marked1.
            stops_at s c f end tail b1 (undecided f) marked1);
        here = tail.here 4 Exit refl;
      })

  -- the program ends
  pub conditions_end : (outcome : Outcome) → decided_before f (truths_of parts) ≡ Some outcome
      → Exits s (conditions_steps parts + 3) (conditions_charge parts + 0) p b (Ends c f outcome [])
  conditions_end outcome e = end_by (list_any is_failed (truths_of parts)) (list_all is_held (truths_of parts)) outcome refl refl e
