-- The validations of a policy's program, in order, and its outcome.
use Rattle.policy_code.proofs.Prelude.{◌≡◌, ℕ, ◌+◌, ◌<◌, ◌%◌, ◌^◌, List, [], ◌∷◌, ◌++◌, length, length-append, None, Bool, true, false, refl, ap, ◌∙◌, sym, arith, true≢false, ◌≤◌, Some, Option, subst, append-nil, append_assoc, if◌then◌else◌, pos, map, option_map, ◌||◌, Insn, R1, R2, R0, R6, ValueOrError, error, value, null, boolean, int, text, list, CpuState, set_register, Context, IsWellFormedState, RunContext, RunsTo, IsCodeAt, size, set_verdict, verdict_address, verdict_at, add_is, differs_no, differs_yes, equal_no, equal_yes, alu, begins, jump, load_wide, no, yes, ask, mov, done, from_place, looser, and_then, to_place, first_result, part_limit, truth_word, IsMessageWord, first_message, finding_word, message_in, denial_code, error_way, result_code, message_tail, if_true, message_code, validation_code, validations_code, outcome_tail, Finding, CheckResult, Holds, Fails, Errs, denies, is_denial, truth_of, text_at, Denied, Admitted, FailurePolicy, cases_lt, kind_number, Names, Ne, W64, charge_limit, outcome_view, compares, Tells, answered, fits_registers, helpers, fits_told, names_error, small_reference, size-append, size-cons, stands_back, stands_front, MessageGives, Part, PartGives, ValidationPart, ValidationsGive, found, message_charge, message_size, message_steps, validation_charge, codes_of_validation, codes_of_validations, validation_size, validation_steps, validations_charge, validations_steps, list_any, sum_by-cons}
use Rattle.value_store.specs.Value.{map as map_value}
use Rattle.policy_code.proofs.Programs.Words.{Judges, Marked, Marks, denials_stored, marks_registers, marks_told, result_stored, tested, message_stored, marks_shown, outcome_stored, load_verdict, put_verdict, store_verdict, count_more, count_of, count_small, message_none, message_of, result_of, message_last, get_last, get_other, none_more}
use Rattle.policy_code.proofs.Programs.Conditions.{part_runs, Ends}

-- an error that denies jumps to the count; one that does not deny jumps past the message
way_counts : (f : FailurePolicy) (n : ℕ) → denies f Errs ≡ true → error_way f n ≡ 1
way_counts f n e = grind arith

way_leaves : (f : FailurePolicy) (n : ℕ) → denies f Errs ≡ false → error_way f n ≡ n
way_leaves f n e = grind arith

module _ (s : RunContext) (c : Context) (f : FailurePolicy) (xs : List Finding) (x : Finding) (few : length xs < part_limit) where
  -- the validation's word is stored, and a denial is counted
  abbrev pub Counted : CpuState → Type 0
  Counted = Marks c 0 (count_of f (xs ++ x ∷ [])) (result_of (xs ++ x ∷ [])) (message_of xs)

  -- a finding that does not deny is not counted
  same_count : is_denial f x ≡ false → count_of f (xs ++ x ∷ []) ≡ count_of f xs
  same_count denial = let count = count_more f xs x ∙ ap (λ (t : Bool). count_of f xs + (if t then 1 else 0)) denial in omega arith

  module _ (o : ℕ) (message : List Insn) (has : IsCodeAt s.image.code o (result_code f (length xs) message)) (v : ValueOrError) (b : CpuState) (judges : Judges c f 0 xs v b) (is : x.truth ≡ truth_of v) where
    abbrev place : ℕ
    place = first_result + length xs

    -- R1 holds the address of the count of denials
    abbrev asked : CpuState
    asked = set_register b R1 (verdict_address 1)

    abbrev worded : CheckResult → CpuState
    worded t = set_verdict place (truth_word t) asked

    -- only the word of the validation is stored
    abbrev Worded : CpuState → Type 0
    Worded = Marks c 0 (count_of f xs) (result_of (xs ++ x ∷ [])) (message_of xs)

    marks_asked : Marked c f 0 xs asked
    marks_asked = marks_registers judges.marked asked.registers refl

    marks_worded : (t : CheckResult) → truth_of v ≡ t → Worded (worded t)
    marks_worded t is_t = result_stored marks_asked (truth_word t) (grind arith) (length xs) few (result_of (xs ++ x ∷ [])) (ap finding_word (get_last xs x) ∙ ap truth_word (is ∙ is_t)) (λ j apart. ap finding_word (get_other xs x j apart))

    -- ---- the validation denies

    abbrev counted : CheckResult → CpuState
    counted t = set_register (set_register (worded t) R2 (verdict_at 1 (worded t))) R2 (count_of f (xs ++ x ∷ []))

    counts : (t : CheckResult) → truth_of v ≡ t → is_denial f x ≡ true → RunsTo s 3 0 (o + 7) (worded t) (o + 10) Counted
    unfolding denial_code
    counts t is_t denial =
        let more = count_more f xs x ∙ ap (λ (d : Bool). count_of f xs + (if d then 1 else 0)) denial in
        let small = count_small f (xs ++ x ∷ []) (let long = length-append xs (x ∷ []) in omega arith) in
        let marks = marks_worded t is_t in
        let old = marks.words.denials_are in
        let sum : (verdict_at 1 (worded t) + 1) % 2 ^ 64 ≡ count_of f (xs ++ x ∷ []) = omega arith in
        let last = marks_registers marks (counted t).registers refl in
        load_verdict has 7 1 0 1 refl marks.fits.frame (omega arith) (omega arith) refl refl
        (alu has 8 (count_of f (xs ++ x ∷ [])) refl refl (add_is (verdict_at 1 (worded t)) 1 ∙ sum)
        (store_verdict has 9 1 refl last.fits.frame (omega arith) refl
        (done s (o + 10) (set_verdict 1 (count_of f (xs ++ x ∷ [])) (counted t)) Counted (denials_stored last (count_of f (xs ++ x ∷ [])) (omega arith)))))

    denied_by : (t : CheckResult) → truth_of v ≡ t → is_denial f x ≡ true → denies f t ≡ true → RunsTo s 8 0 o b (o + 10) Counted
    unfolding denial_code
    denied_by Holds is_t denial some = absurd (true≢false (sym some))
    denied_by Fails is_t denial some =
        let t = tested c v Fails b judges.marked.fits judges.named is_t in
        looser s 8 0 (omega arith) (omega arith) (begins has
        (no has 0 refl t.held
        (load_wide has 1 refl refl
        (yes has 3 2 refl t.failed
        (put_verdict has 6 1 (length xs + 1) place refl marks_asked.fits.frame (omega arith) (omega arith) refl
        (counts Fails is_t denial))))))
    denied_by Errs is_t denial some =
        let t = tested c v Errs b judges.marked.fits judges.named is_t in
        let way = way_counts f (size message + 4) some in
        begins has
        (no has 0 refl t.held
        (load_wide has 1 refl refl
        (no has 3 refl t.failed
        (put_verdict has 4 1 (length xs + 1) place refl marks_asked.fits.frame (omega arith) (omega arith) refl
        (jump has 5 (error_way f (size message + 4)) refl
        (from_place s (o + (5 + 1 + error_way f (size message + 4))) (omega (arith, way))
        (counts Errs is_t denial)))))))

    pub denied : is_denial f x ≡ true → RunsTo s 8 0 o b (o + 10) Counted
    denied denial = denied_by (truth_of v) refl denial (ap (denies f) (sym is) ∙ denial)

    -- ---- the validation does not deny

    not_denied_by : (t : CheckResult) → truth_of v ≡ t → is_denial f x ≡ false → x.message ≡ None → denies f t ≡ false
        → RunsTo s 8 0 o b (o + (size message + 10)) (Marked c f 0 (xs ++ x ∷ []))
    unfolding denial_code
    not_denied_by Holds is_t no_denial no_message none =
        let t = tested c v Holds b judges.marked.fits judges.named is_t in
        looser s 8 0 (omega arith) (omega arith) (begins has
        (yes has 0 (size message + 9) refl t.held
        (from_place s (o + (0 + 1 + (size message + 9))) (omega arith)
        (done s (o + (size message + 10)) b (Marked c f 0 (xs ++ x ∷ [])) (marks_told judges.marked (same_count no_denial) (λ j. none_more finding_word xs x j (ap truth_word (is ∙ is_t))) (λ j. message_none xs x j no_message))))))
    not_denied_by Fails is_t no_denial no_message none = absurd (true≢false none)
    not_denied_by Errs is_t no_denial no_message none =
        let t = tested c v Errs b judges.marked.fits judges.named is_t in
        let way = way_leaves f (size message + 4) none in
        looser s 8 0 (omega arith) (omega arith) (begins has
        (no has 0 refl t.held
        (load_wide has 1 refl refl
        (no has 3 refl t.failed
        (put_verdict has 4 1 (length xs + 1) place refl marks_asked.fits.frame (omega arith) (omega arith) refl
        (jump has 5 (error_way f (size message + 4)) refl
        (from_place s (o + (5 + 1 + error_way f (size message + 4))) (omega (arith, way))
        (done s (o + (size message + 10)) (worded Errs) (Marked c f 0 (xs ++ x ∷ [])) (marks_told (marks_worded Errs is_t) (same_count no_denial) (λ j. refl) (λ j. message_none xs x j no_message))))))))))

    pub not_denied : is_denial f x ≡ false → x.message ≡ None → RunsTo s 8 0 o b (o + (size message + 10)) (Marked c f 0 (xs ++ x ∷ []))
    not_denied no_denial no_message = not_denied_by (truth_of v) refl no_denial no_message (ap (denies f) (sym is) ∙ no_denial)

-- the value is a text or something else
pub data TextOr (y : ValueOrError) : Type 0 where
  Text : (t : List ℕ) → y ≡ value (text t) → TextOr y
  Else : text_at (Some y) ≡ None → compares W64 Ne (kind_number (outcome_view y)) 4 ≡ true → TextOr y

text_or : (y : ValueOrError) → TextOr y
text_or error = Else refl (differs_yes 0 4 (λ h. omega arith))
text_or (value null) = Else refl (differs_yes 1 4 (λ h. omega arith))
text_or (value (boolean b)) = Else refl (differs_yes 2 4 (λ h. omega arith))
text_or (value (int n)) = Else refl (differs_yes 3 4 (λ h. omega arith))
text_or (value (text t)) = Text t refl
text_or (value (list is)) = Else refl (differs_yes 5 4 (λ h. omega arith))
text_or (value (map_value es)) = Else refl (differs_yes 6 4 (λ h. omega arith))

module _ (s : RunContext) (c : Context) (f : FailurePolicy) (xs : List Finding) (x : Finding) (few : length xs < part_limit) (o : ℕ) (has : IsCodeAt s.image.code o (message_tail (length xs))) (y : ValueOrError) (b : CpuState) (marks : Counted s c f xs x few b) (named : Names b.values.values (b.registers R0) y) (is : x.message ≡ text_at (Some y)) where
  abbrev asks : CpuState
  asks = set_register (set_register b R6 (b.registers R0)) R1 (b.registers R0)

  asks_fits : IsWellFormedState c 0 0 asks
  asks_fits = fits_registers c 0 0 b asks.registers refl marks.fits

  kind : Tells (pos 1) asks (kind_number (outcome_view y)) 1
  kind = helpers.kind c.environment.roots asks y asks_fits.values named

  -- R0 holds the kind of the value
  abbrev told : CpuState
  told = answered asks (kind_number (outcome_view y)) b.values.values (b.values.charge + 1)

  told_marks : b.values.charge + 1 ≤ charge_limit → Counted s c f xs x few told
  told_marks paid = record { fits = fits_told c 0 0 (pos 1) (kind_number (outcome_view y)) 1 asks kind paid asks_fits; words = marks.words }

  abbrev message_place : ℕ
  message_place = first_message + length xs

  abbrev ready : CpuState
  ready = set_register told R1 (verdict_address message_place)

  message_here : (t : List ℕ) → y ≡ value (text t) → IsMessageWord b.values.values (b.registers R0) (message_of (xs ++ x ∷ []) (length xs))
  message_here t e = grind (arith, message_of, message_last, cases_lt, names_error)

  text_runs : (t : List ℕ) → y ≡ value (text t) → RunsTo s 6 1 o b (o + 7) (Marked c f 0 (xs ++ x ∷ []))
  unfolding message_tail
  text_runs t e =
      let small = small_reference b.values (b.registers R0) y marks.fits.values.table named in
      looser s 6 1 (omega arith) (omega arith) (begins has
      (mov has 0 refl refl
      (mov has 1 refl refl
      (ask has 2 refl kind.answers (λ paid.
      let ready_marks : Counted s c f xs x few ready = marks_registers (told_marks paid) ready.registers refl in
      no has 3 refl (rw e (differs_no 4 4 refl))
      (load_wide has 4 refl refl
      (store_verdict has 6 message_place refl ready_marks.fits.frame (omega arith) refl
      (done s (o + 7) (set_verdict message_place (b.registers R0) ready) (Marked c f 0 (xs ++ x ∷ [])) (message_stored ready_marks (b.registers R0) small (length xs) few (message_of (xs ++ x ∷ [])) (message_here t e) (λ j apart. ap message_in (get_other xs x j apart)))))))))))

  other_runs : text_at (Some y) ≡ None → compares W64 Ne (kind_number (outcome_view y)) 4 ≡ true → RunsTo s 6 1 o b (o + 7) (Marked c f 0 (xs ++ x ∷ []))
  unfolding message_tail
  other_runs none differs =
      looser s 6 1 (omega arith) (omega arith) (begins has
      (mov has 0 refl refl
      (mov has 1 refl refl
      (ask has 2 refl kind.answers (λ paid.
      yes has 3 3 refl differs
      (done s (o + 7) told (Marked c f 0 (xs ++ x ∷ [])) (marks_told (told_marks paid) refl (λ j. refl) (λ j. message_none xs x j (is ∙ none)))))))))

  by_kind : TextOr y → RunsTo s 6 1 o b (o + 7) (Marked c f 0 (xs ++ x ∷ []))
  by_kind h0 = grind (arith, Text, text_runs, Else, other_runs)

  pub message_runs : RunsTo s 6 1 o b (o + 7) (Marked c f 0 (xs ++ x ∷ []))
  message_runs = by_kind (text_or y)

-- the slots of validations
abbrev pub rules_slots : List ValidationPart → ℕ
rules_slots [] = 0
rules_slots (r ∷ more) = validation_size r + rules_slots more

-- the code before the message of a validation
abbrev pub result_front : FailurePolicy → ℕ → ℕ → List Insn
result_front f i n = if_true (n + 9) ∷ denial_code f i n

pub denial_size : (f : FailurePolicy) (i n : ℕ) → size (denial_code f i n) ≡ 9
unfolding denial_code
denial_size f i n = refl

pub front_size : (f : FailurePolicy) (i n : ℕ) → size (result_front f i n) ≡ 10
front_size f i n = size-cons (if_true (n + 9)) (denial_code f i n) ∙ ap (λ (m : ℕ). 1 + m) (denial_size f i n)

pub result_size : (f : FailurePolicy) (i : ℕ) (message : List Insn) → size (result_code f i message) ≡ size message + 10
result_size f i message = grind (arith, front_size, size-append)

pub message_tail_size : (i : ℕ) → size (message_tail i) ≡ 7
unfolding message_tail
message_tail_size i = refl

abbrev pub codes_in : Option Part → Option (List Insn)
codes_in m = option_map (λ a. a.code) m

abbrev pub value_in : Option Part → Option ValueOrError
value_in m = option_map (λ a. a.value) m

pub message_code_size : (i : ℕ) (m : Option Part) → size (message_code i (codes_in m)) ≡ message_size m
message_code_size i m = grind (arith, message_tail_size, size-append)

module _ (s : RunContext) (c : Context) (f : FailurePolicy) (xs : List Finding) (x : Finding) (few : length xs < part_limit) where
  -- the message of a denial
  message_given : (o : ℕ) (m : Option Part) (b : CpuState) → IsCodeAt s.image.code o (message_code (length xs) (codes_in m)) → MessageGives s c o true m → x.message ≡ text_at (value_in m) → Counted s c f xs x few b → RunsTo s (message_steps true m) (message_charge true m) o b (o + message_size m) (Marked c f 0 (xs ++ x ∷ []))
  message_given o None b has gives is counted =
      to_place s (o + 0) (omega arith) (done s o b (Marked c f 0 (xs ++ x ∷ [])) (marks_told counted refl (λ j. refl) (λ j. message_none xs x j is)))
  message_given o (Some m) b has gives is counted =
      let q = o + size m.code in
      let Q = Marked c f 0 (xs ++ x ∷ []) in
      to_place s (o + (size m.code + 7)) (omega arith)
      (and_then s 6 1 (q + 7) Q ((gives refl).runs b (stands_front s.image.code o m.code (message_tail (length xs)) has) counted.fits) (λ b1 shown.
      message_runs s c f xs x few q (stands_back s.image.code o m.code (message_tail (length xs)) has) m.value b1 (marks_shown counted m.value b1 shown) shown.shows is))

  -- the code after the expression
  result_runs : (o : ℕ) (m : Option Part) (v : ValueOrError) (d : Bool) (b : CpuState) → IsCodeAt s.image.code o (result_code f (length xs) (message_code (length xs) (codes_in m))) → MessageGives s c (o + 10) d m → x.truth ≡ truth_of v → is_denial f x ≡ d → x.message ≡ (if d then text_at (value_in m) else None) → Judges c f 0 xs v b → RunsTo s (8 + message_steps d m) (message_charge d m) o b (o + 10 + message_size m) (Marked c f 0 (xs ++ x ∷ []))
  result_runs o m v false b has gives truth denial is judges =
      let long = message_code_size (length xs) m in
      looser s {n = 8} {x = 0} (8 + message_steps false m) (message_charge false m) (omega arith) (omega arith)
      (to_place s (o + 10 + message_size m) (omega arith) (not_denied s c f xs x few o (message_code (length xs) (codes_in m)) has v b judges truth denial is))
  result_runs o m v true b has gives truth denial is judges =
      let code = message_code (length xs) (codes_in m) in
      let front = result_front f (length xs) (size code) in
      let behind = subst (λ (n : ℕ). IsCodeAt s.image.code (o + n) code) (front_size f (length xs) (size code)) (stands_back s.image.code o front code has) in
      looser s {n = 8 + message_steps true m} {x = 0 + message_charge true m} (8 + message_steps true m) (message_charge true m) (omega arith) (omega arith)
      (and_then s (message_steps true m) (message_charge true m) (o + 10 + message_size m) (Marked c f 0 (xs ++ x ∷ [])) (denied s c f xs x few o code has v b judges truth denial) (λ b1 counted.
      message_given (o + 10) m b1 behind gives is counted))

rule_code_size : (f : FailurePolicy) (i : ℕ) (r : ValidationPart) → size (validation_code f i (codes_of_validation r)) ≡ validation_size r
rule_code_size f i r = grind (arith, size-append, result_size, message_code_size)

pub rules_size : (f : FailurePolicy) (i : ℕ) (rules : List ValidationPart) → size (validations_code f i (codes_of_validations rules)) ≡ rules_slots rules
unfolding validations_code
rules_size f i [] = refl
rules_size f i (r ∷ more) = grind (arith, rules_size f (i + 1) more, size-append, rule_code_size)

module _ (s : RunContext) (c : Context) (f : FailurePolicy) where
  -- a validation, with its message
  rule_runs : (xs : List Finding) (r : ValidationPart) (p : ℕ) (b : CpuState) → length xs < part_limit → IsCodeAt s.image.code p (validation_code f (length xs) (codes_of_validation r)) → PartGives s c p r.expression → MessageGives s c (p + size r.expression.code + 10) (denies f (truth_of r.expression.value)) r.message → Marked c f 0 xs b → RunsTo s (validation_steps f r) (validation_charge f r) p b (p + validation_size r) (Marked c f 0 (xs ++ found f r ∷ []))
  rule_runs xs r p b few has gives told marked =
      let e = r.expression in
      let q = p + size e.code in
      let d = denies f (truth_of e.value) in
      let code = result_code f (length xs) (message_code (length xs) (codes_in r.message)) in
      let behind = stands_back s.image.code p e.code code has in
      let Q = Marked c f 0 (xs ++ found f r ∷ []) in
      looser s {n = e.steps + (8 + message_steps d r.message)} {x = e.charge + message_charge d r.message} (validation_steps f r) (validation_charge f r) (omega arith) (omega arith)
      (to_place s (p + validation_size r) (omega arith)
      (and_then s (8 + message_steps d r.message) (message_charge d r.message) (q + 10 + message_size r.message) Q (part_runs s c f 0 p xs e b (stands_front s.image.code p e.code code has) gives marked) (λ b1 judges.
      result_runs s c f xs (found f r) few q r.message e.value d b1 behind told refl refl refl judges)))

  -- a list of validations
  pub rules_run : (rules : List ValidationPart) (xs : List Finding) (p : ℕ) (b : CpuState) → length xs + length rules ≤ part_limit
      → IsCodeAt s.image.code p (validations_code f (length xs) (codes_of_validations rules)) → ValidationsGive f s c p rules → Marked c f 0 xs b
      → RunsTo s (validations_steps f rules) (validations_charge f rules) p b (p + rules_slots rules) (Marked c f 0 (xs ++ map (found f) rules))
  unfolding validations_code
  rules_run [] xs p b few has gives marked =
      to_place s (p + 0) (omega arith) (done s p b (Marked c f 0 (xs ++ [])) (subst (λ (ys : List Finding). Marked c f 0 ys b) (sym (append-nil xs)) marked))
  rules_run (r ∷ more) xs p b few has gives marked =
      let first = validation_code f (length xs) (codes_of_validation r) in
      let rest = validations_code f (length xs + 1) (codes_of_validations more) in
      let next = p + validation_size r in
      let ys = xs ++ found f r ∷ [] in
      let longer : length ys ≡ length xs + 1 = length-append xs (found f r ∷ []) in
      let joined : ys ++ map (found f) more ≡ xs ++ map (found f) (r ∷ more) = append_assoc xs (found f r ∷ []) (map (found f) more) in
      let has_rest : IsCodeAt s.image.code next rest = subst (λ (n : ℕ). IsCodeAt s.image.code (p + n) rest) (rule_code_size f (length xs) r) (stands_back s.image.code p first rest has) in
      let has_more = subst (λ (i : ℕ). IsCodeAt s.image.code next (validations_code f i (codes_of_validations more))) (sym longer) has_rest in
      let Q = Marked c f 0 (xs ++ map (found f) (r ∷ more)) in
      to_place s (p + rules_slots (r ∷ more)) (omega arith)
      (and_then s (validations_steps f more) (validations_charge f more) (next + rules_slots more) Q (rule_runs xs r p b (omega arith) (stands_front s.image.code p first rest has) gives.0 gives.1 marked) (λ b1 marked1.
      subst (λ (zs : List Finding). RunsTo s (validations_steps f more) (validations_charge f more) next b1 (next + rules_slots more) (Marked c f 0 zs)) joined (rules_run more ys next b1 (omega arith) has_more gives.2 marked1)))

pub outcome_tail_size : size outcome_tail ≡ 7
unfolding outcome_tail
outcome_tail_size = refl

-- ---- the count is positive exactly if a validation denies

-- the count is at least 1 if a validation denies, else 0
abbrev IsCounted : Bool → ℕ → Type 0
IsCounted true n = 1 ≤ n
IsCounted false n = n ≡ 0

count_more_by : (first rest : Bool) (n : ℕ) → IsCounted rest n → IsCounted (first || rest) ((if first then 1 else 0) + n)
count_more_by first rest n is = grind arith

count_all : (f : FailurePolicy) (xs : List Finding) → IsCounted (list_any (is_denial f) xs) (count_of f xs)
count_all f [] = refl
count_all f (x ∷ xs) = subst (IsCounted (list_any (is_denial f) (x ∷ xs))) (sym (sum_by-cons (λ y. if is_denial f y then 1 else 0) x xs)) (count_more_by (is_denial f x) (list_any (is_denial f) xs) (count_of f xs) (count_all f xs))

-- ---- its word

module _ (s : RunContext) (c : Context) (f : FailurePolicy) (xs : List Finding) (o : ℕ) (has : IsCodeAt s.image.code o outcome_tail) (b : CpuState) (marked : Marked c f 0 xs b) where
  abbrev admits : CpuState
  admits = set_register (set_register (set_register b R1 (verdict_address 0)) R2 (verdict_at 1 b)) R0 4

  abbrev denies_any : CpuState
  denies_any = set_register admits R0 3

  outcome_by : (any : Bool) → IsCounted any (count_of f xs) → RunsTo s 6 0 o b (o + 7) (Ends c f (if any then Denied else Admitted) xs)
  unfolding outcome_tail
  outcome_by false none =
      let marks = marks_registers marked admits.registers refl in
      let stored = outcome_stored marks 4 (omega arith) in
      let count = marked.words.denials_are in
      looser s 6 0 (omega arith) (omega arith) (begins has
      (load_wide has 0 refl refl
      (load_verdict has 2 0 1 1 refl marked.fits.frame (omega arith) (omega arith) refl refl
      (mov has 3 refl refl
      (yes has 4 1 refl (equal_yes (verdict_at 1 b) 0 (count ∙ none))
      (store_verdict has 6 0 refl marks.fits.frame (omega arith) refl
      (done s (o + 7) (set_verdict 0 4 admits) (Ends c f Admitted xs) (record { marked = stored; answers = refl }))))))))
  outcome_by true some =
      let marks = marks_registers marked denies_any.registers refl in
      let stored = outcome_stored marks 3 (omega arith) in
      begins has
      (load_wide has 0 refl refl
      (load_verdict has 2 0 1 1 refl marked.fits.frame (omega arith) (omega arith) refl refl
      (mov has 3 refl refl
      (no has 4 refl (equal_no (verdict_at 1 b) 0 (λ e. omega arith))
      (mov has 5 refl refl
      (store_verdict has 6 0 refl marks.fits.frame (omega arith) refl
      (done s (o + 7) (set_verdict 0 3 denies_any) (Ends c f Denied xs) (record { marked = stored; answers = refl }))))))))

  pub outcome_runs : RunsTo s 6 0 o b (o + 7) (Ends c f (if list_any (is_denial f) xs then Denied else Admitted) xs)
  outcome_runs = outcome_by (list_any (is_denial f) xs) (count_all f xs)
