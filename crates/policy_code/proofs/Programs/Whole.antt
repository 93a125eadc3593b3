-- The code of a policy, from its start to its exit.
use Rattle.policy_code.proofs.Prelude.{◌≡◌, ℕ, ◌+◌, ◌<◌, ◌≤◌, List, [], ◌∷◌, ◌++◌, length, Option, Some, None, true, refl, ap, ◌∙◌, subst, sym, arith, append_assoc, All, map, pos, if◌then◌else◌, list_any, ints, start_memory, Insn, Exit, Contents, ValueOrError, Roots, DecodesSpelling, fetched, State, state_after, Frame, CpuState, Context, HasValues, RunContext, RunsTo, ExitsOrRunsOut, ja, IsCodeAt, size, start_body, bindings, scope_setting, routine_context, comes_to_exit, size-append, size-cons, stands_back, stands_first, stands_front, stands_rest, halts_into, start_fits, start_is, steps-most, word_in-zeros, and_then, done, looser, to_place, spelled_stands, part_limit, conditions_code, decided_code, outcome_tail, policy_code, routines_code, validations_code, LeavesVerdict, PolicyDecides, conditions_place, program_charge, program_steps, validations_place, ConditionsGive, Part, ValidationPart, ValidationsGive, codes_of, conditions_charge, conditions_steps, found, codes_of_validations, values_of_validations, validations_charge, validations_steps, values_given, Denied, Admitted, Finding, Outcome, Verdict, decided, decided_before, finding_of, is_denial, judged_by, truth_of, verdict_of, FailurePolicy}
use Rattle.std.specs.Prelude.{is_none}
use Rattle.loader.specs.Contents as loader
use Rattle.expression_code.proofs.Steps as step
use Rattle.policy_code.proofs.Programs.Conditions.{Ends, Exits, conditions_end, conditions_pass, decided_size, truths_of}
use Rattle.policy_code.proofs.Programs.Words.{Marked, is_layout}
use Rattle.policy_code.proofs.Programs.Validations.{outcome_runs, outcome_tail_size, rules_run, rules_size}

-- ---- lists of values

truths_are : (parts : List Part) → map truth_of (values_given parts) ≡ truths_of parts
truths_are [] = refl
truths_are (a ∷ more) = ap (λ ts. truth_of a.value ∷ ts) (truths_are more)

findings_are : (f : FailurePolicy) (rules : List ValidationPart) → map (finding_of f) (values_of_validations rules) ≡ map (found f) rules
findings_are f [] = refl
findings_are f (r ∷ more) = ap (λ (xs : List Finding). found f r ∷ xs) (findings_are f more)

-- the verdict of parts
abbrev verdict : FailurePolicy → List Part → List ValidationPart → Verdict
verdict f conditions rules = decided (decided_before f (truths_of conditions)) (judged_by f (map (found f) rules))

verdict_is : (f : FailurePolicy) (conditions : List Part) (rules : List ValidationPart) → verdict_of f (values_given conditions) (values_of_validations rules) ≡ verdict f conditions rules
unfolding verdict_of
verdict_is f conditions rules = grind (arith, truths_are, truths_of, findings_are)

-- ---- the program jumps over the routines

pub routines_pass : (s : RunContext) (routines : List (List Insn)) (p : ℕ) (b : CpuState) → IsCodeAt s.image.code p (routines_code routines)
    → RunsTo s (length routines) 0 p b (p + size (routines_code routines)) (λ last. last ≡ b)
routines_pass s [] p b has = to_place s (p + 0) (omega arith) (done s p b (λ last. last ≡ b) refl)
routines_pass s (routine ∷ more) p b has =
    let jump = ja (size routine) in
    let rest = routine ++ routines_code more in
    let whole = size-append routine (routines_code more) in
    let first = size-cons jump rest in
    to_place s (p + size (jump ∷ rest)) (omega arith)
    (step.jump s p (p + 1 + size routine) b (pos (size routine)) (stands_first s.image.code p jump rest has) (omega (arith, ints))
    (routines_pass s more _ b (stands_back s.image.code (p + 1) routine (routines_code more) (stands_rest s.image.code p jump rest has))))

-- ---- from the first slot to an exit

module _ (s : RunContext) (c : Context) (f : FailurePolicy) (routines : List (List Insn)) (conditions : List Part) (rules : List ValidationPart) (few : length rules ≤ part_limit) (b : CpuState) (marked : Marked c f 0 [] b) (has : IsCodeAt s.image.code 0 (policy_code f routines (codes_of conditions) (codes_of_validations rules) ++ Exit ∷ [])) (gives_conditions : ConditionsGive s c (conditions_place routines) conditions) (gives_rules : is_none (decided_before f (truths_of conditions)) ≡ true → ValidationsGive f s c (validations_place f routines conditions) rules) where
  abbrev code : List ℕ
  code = s.image.code

  abbrev row : List Insn
  row = conditions_code f (codes_of conditions)

  abbrev decide : List Insn
  decide = decided_code (codes_of conditions)

  abbrev rules_row : List Insn
  rules_row = validations_code f 0 (codes_of_validations rules)

  abbrev running : List Insn
  running = rules_row ++ outcome_tail

  abbrev first : ℕ
  first = conditions_place routines

  abbrev second : ℕ
  second = validations_place f routines conditions

  abbrev third : ℕ
  third = second + size rules_row

  has_policy : IsCodeAt code 0 (routines_code routines ++ (row ++ (decide ++ running)))
  unfolding policy_code
  has_policy = stands_front code 0 (routines_code routines ++ (row ++ (decide ++ running))) (Exit ∷ []) has

  has_first : IsCodeAt code first (row ++ (decide ++ running))
  has_first =
      let place : 0 + size (routines_code routines) ≡ first = omega arith in
      subst (λ (p : ℕ). IsCodeAt code p (row ++ (decide ++ running))) place (stands_back code 0 (routines_code routines) (row ++ (decide ++ running)) has_policy)

  has_conditions : IsCodeAt code first (row ++ decide)
  has_conditions = stands_front code first (row ++ decide) running (subst (IsCodeAt code first) (sym (append_assoc row decide running)) has_first)

  has_second : IsCodeAt code second running
  has_second =
      subst (λ (n : ℕ). IsCodeAt code (first + size row + n) running) (decided_size conditions)
      (stands_back code (first + size row) decide running (stands_back code first row (decide ++ running) has_first))

  has_third : IsCodeAt code third outcome_tail
  has_third = stands_back code second rules_row outcome_tail has_second

  last_exit : fetched code (pos (third + 7)) ≡ Some (Some Exit)
  unfolding policy_code
  last_exit =
      let whole = routines_code routines ++ (row ++ (decide ++ running)) in
      let place : 0 + size whole ≡ third + 7 = omega (arith, size-append, outcome_tail_size, decided_size) in
      subst (λ (p : ℕ). fetched code (pos p) ≡ Some (Some Exit)) place (stands_first code (0 + size whole) Exit [] (stands_back code 0 whole (Exit ∷ []) has))

  abbrev found_all : List Finding
  found_all = map (found f) rules

  -- after the routines
  behind : (n x : ℕ) (q : ℕ) (Q : CpuState → Type 0) → RunsTo s n x first b q Q → RunsTo s (length routines + n) (0 + x) 0 b q Q
  behind n x q Q comes =
      let place : 0 + size (routines_code routines) ≡ first = omega arith in
      and_then s n x q Q (to_place s first place (routines_pass s routines 0 b (stands_front code 0 (routines_code routines) (row ++ (decide ++ running)) has_policy))) (λ b1 same.
      subst (λ (b2 : CpuState). RunsTo s n x first b2 q Q) (sym same) comes)

  -- the policy runs
  runs : decided_before f (truths_of conditions) ≡ None
      → RunsTo s (conditions_steps conditions + 3 + (validations_steps f rules + 6)) (conditions_charge conditions + 0 + (validations_charge f rules + 0)) first b (third + 7) (Ends c f (if list_any (is_denial f) found_all then Denied else Admitted) found_all)
  runs e =
      let Q = Ends c f (if list_any (is_denial f) found_all then Denied else Admitted) found_all in
      let long = rules_size f 0 rules in
      and_then s (validations_steps f rules + 6) (validations_charge f rules + 0) (third + 7) Q (conditions_pass s c f conditions first b has_conditions gives_conditions marked e) (λ b1 marked1.
      and_then s 6 0 (third + 7) Q (to_place s third (omega arith) (rules_run s c f rules [] second b1 (omega arith) (stands_front code second rules_row outcome_tail has_second) (gives_rules (ap is_none e)) marked1)) (λ b2 marked2.
      outcome_runs s c f found_all third has_third b2 marked2))

  ends_by : (o : Option Outcome) → decided_before f (truths_of conditions) ≡ o → let v = decided o (judged_by f found_all) in Exits s (length routines + (conditions_steps conditions + 3 + (if is_none o then validations_steps f rules + 6 else 0))) (conditions_charge conditions + (if is_none o then validations_charge f rules else 0)) 0 b (Ends c f v.outcome v.findings)
  ends_by None e = record {
    place = third + 7;
    comes =
        looser s {n = length routines + (conditions_steps conditions + 3 + (validations_steps f rules + 6))} {x = 0 + (conditions_charge conditions + 0 + (validations_charge f rules + 0))} (length routines + (conditions_steps conditions + 3 + (validations_steps f rules + 6))) (conditions_charge conditions + validations_charge f rules) (omega arith) (omega arith)
        (behind (conditions_steps conditions + 3 + (validations_steps f rules + 6)) (conditions_charge conditions + 0 + (validations_charge f rules + 0)) (third + 7) (Ends c f (if list_any (is_denial f) found_all then Denied else Admitted) found_all) (runs e));
    here = last_exit;
  }
  ends_by (Some outcome) e =
      let end = conditions_end s c f conditions first b has_conditions gives_conditions marked outcome e in
      record {
        place = end.place;
        comes =
            looser s {n = length routines + (conditions_steps conditions + 3)} {x = 0 + (conditions_charge conditions + 0)} (length routines + (conditions_steps conditions + 3 + 0)) (conditions_charge conditions + 0) (omega arith) (omega arith)
            (behind (conditions_steps conditions + 3) (conditions_charge conditions + 0) end.place (Ends c f outcome []) end.comes);
        here = end.here;
      }

  pub policy_ends : let v = verdict_of f (values_given conditions) (values_of_validations rules) in Exits s (program_steps f routines conditions rules) (program_charge f conditions rules) 0 b (Ends c f v.outcome v.findings)
  policy_ends = grind (arith, verdict_is, truths_are, ends_by, truths_of)

-- ---- from the start

no_records : (frames : List Frame) → length frames ≡ 0 → frames ≡ []
no_records [] e = refl
no_records (frame ∷ frames) e = absurd (omega arith)

start_marked : (image : loader.Image) (values : Contents) (roots : Roots) (variables : List (List ℕ × ValueOrError)) (f : FailurePolicy) → All (λ b. b < 256) image.constants → HasValues roots values → Marked (routine_context roots variables image.constants) f 0 [] (start_body image values)
unfolding start_memory
start_marked image values roots variables f bytes has = record {
  fits = start_fits image values roots variables bytes has;
  words = record {
    outcome_is = word_in-zeros 2048 0;
    denials_are = word_in-zeros 2048 1;
    results = λ i below. word_in-zeros 2048 _;
    messages = λ i below. word_in-zeros 2048 _;
    others = λ i past below. word_in-zeros 2048 i;
  };
}

pub policy_decides : DecodesSpelling → PolicyDecides
policy_decides law image deep values roots scope f routines conditions rules after m code bytes constants insns table few gives_conditions gives_rules more =
    let s = scope_setting image deep scope in
    let c = routine_context roots (bindings scope) image.constants in
    let v = verdict_of f (values_given conditions) (values_of_validations rules) in
    let start = start_body image values in
    let whole = policy_code f routines (codes_of conditions) (codes_of_validations rules) ++ Exit ∷ [] in
    let n = program_steps f routines conditions rules in
    let x = program_charge f conditions rules in
    let stands : IsCodeAt image.code 0 whole = subst (λ (bs : List ℕ). IsCodeAt bs 0 whole) (sym code) (spelled_stands law [] after whole 0 refl (subst (λ (bs : List ℕ). All (λ b. b < 256) bs) code bytes) insns) in
    let ends = policy_ends s c f routines conditions rules few start (start_marked image values roots (bindings scope) f constants table) stands gives_conditions (λ e. gives_rules (ap (λ ts. is_none (decided_before f ts)) (truths_are conditions) ∙ e)) in
    let most = steps-most image scope start.memory.scratch in
    let halts = comes_to_exit s n x 0 ends.place m start (Ends c f v.outcome v.findings) ends.comes ends.here (λ b q. no_records b.records q.marked.fits.frame.records_are) (omega arith) in
    let told = halts_into s x start (Ends c f v.outcome v.findings) (LeavesVerdict f v) (λ b q. record { answers = q.answers; layout = is_layout f v b.values.values b.memory.verdict q.marked.words }) halts in
    subst (λ (t : State). ExitsOrRunsOut s x start (LeavesVerdict f v) (state_after m t)) (sym (start_is image values)) told
