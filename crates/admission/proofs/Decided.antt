-- The results of reviews, from the states of the policies' programs.
use Rattle.std.proofs.Common.{nat_lt}
use Rattle.admission.proofs.Prelude.{◌≡◌, ℕ, ◌+◌, ◌*◌, ◌≤◌, ◌⊎◌, Bool, true, false, ◌&&◌, List, [], ◌∷◌, ◌++◌, length, Option, Some, Result, Ok, Err, refl, sym, ap, ◌∙◌, subst, arith, inl, inr, if◌then◌else◌, cases_lt, length-map, length_push, Fault as GuestFault, F8, StartIsCanonical, Contents, charge_limit, AreOfRoots, Roots, StartsAreTables, State, start_state, StatesAreKept, is_running, state_after, Status, Exited, Running, HasValues, TakenOrRefused, PartsEnd, policy_work, decision_of, outcome_of, outcome_word, Compiles, Verdict, Policy, Decides, OutOfBudget, LeavesByExit, PolicyTree, Finding, decided, judged_by, verdict_of, CompileError, FailurePolicy, GatePolicy, Reply, Documents, IsAnswered, IsPolicy, decision, started, values_given, IsGateOn, Exit, Exits, HasExited, NoExit, Stopped, no_exit_error, IsExit, OfVerdict, IsDecisionOf, Decision, decision_from_verdict, Images, PolicyRun, PolicyRunEnds, RunAgrees, exactly, document_given, parts_given, uid_in, RunError, ReviewRefused, NamespaceOrParamsRefused, OutOfSteps, OverLimit, OutOfReads}
use Rattle.bpf_machine.specs.declared.status.Status.TheVariants.{Fault}
use Rattle.run_ends.specs.declared.no_exit.NoExit.TheVariants as no_exit
use Rattle.bpf_machine.specs.Reads.{reads_to, IsLimitedStop, LimitedStopsOnce}
use Rattle.policy_glue.specs.Checking as checking
use Rattle.policy_glue.specs.Findings.{PolicyFinding, findings_of}
use Rattle.policy_glue.specs.Rejections.{Rejection}
use Rattle.policy_glue.specs.Response.{response_of}
use Rattle.policy_glue.specs.declared.outcome.Outcome.{Outcome}
use Rattle.admission.specs.Deciding.{answer_of, is_allowed}
use Rattle.admission.specs.Findings.{AreFindingsOf}
use Rattle.review_tables.specs.ReviewTable.{ReviewTableReturns}
use Rattle.review_tables.specs.declared.review_error.ReviewError.{ReviewError}
use Rattle.review_tables.specs.declared.review_error.ReviewError.TheVariants as review_error
use Rattle.admission.specs.Reviews.{refusal_at, table_refusal}
use Rattle.policy_glue.specs.Layout.{IsLayout}
use Rattle.admission.specs.Standing.{RunEnding, ending, ending_by, has_stopped, out_of_steps, out_of_reads, steps_taken}
use Rattle.admission.specs.declared.limits.Limits.{Limits}
use Rattle.admission.proofs.Ends.{below_limit, is_below, is_not_below, not_and, of_and}
use Rattle.admission.proofs.RootTables.{refused_as}
use Rattle.admission.proofs.Said.{same_form}
use Rattle.admission.proofs.RootContents.{given_have_values, given_are_started}
use Rattle.admission.proofs.WrappedRoots.{placed_have_values, placed_fit}
use Rattle.admission.specs.Deciding.{placed_roots}
use Rattle.admission.specs.Starting.{gate_contents, IsFirstState, IsStart, StartsGate}
use Rattle.admission.specs.declared.run_error.RunError.TheVariants.{PolicyRefused, Memory}

-- ---- the number of findings

-- the result has as many parts as the list
ends_length : {A B : Type 0} (T : List B → A → B → Type 0) (R : List B → A → CompileError → Type 0) (taken : List B) (parts : List A) (end : Result (List B) CompileError) (out : List B)
    → TakenOrRefused T R taken parts end → end ≡ Ok out → length out ≡ length taken + length parts
ends_length T R taken [] end out checking.over e = let same : taken ≡ out = cc in omega (arith, ap length same)
ends_length T R taken (part ∷ more) end out (checking.refused err why) e = cc
ends_length T R taken (part ∷ more) end out (checking.next tree took rest) e =
    let ih = ends_length T R (taken ++ tree ∷ []) more end out rest e in
    omega (arith, ih, length_push taken tree)

parts_length : (p : Policy) (end : Result PolicyTree CompileError) (t : PolicyTree) → PartsEnd p end → end ≡ Ok t → length t.validations ≡ length p.validations
parts_length p end t (checking.taken vs cs rs v c r) e =
    let same : record { variables = vs; conditions = cs; validations = rs } ≡ t = cc in
    let many = ends_length _ _ [] p.validations (Ok rs) rs r refl in
    omega (arith, ap (λ (u : PolicyTree). length u.validations) same, many)
parts_length p end t other e = cc

pub compiled_length : (p : Policy) (end : Result PolicyTree CompileError) (t : PolicyTree) → Compiles p end → end ≡ Ok t → length t.validations ≡ length p.validations
compiled_length p end t compiles e = grind (arith, parts_length)

findings_by : (o : Option Outcome) (f : FailurePolicy) (xs : List Finding) → length (decided o (judged_by f xs)).findings ≤ length xs
findings_by o f xs = grind arith

pub few_findings : (f : FailurePolicy) (t : PolicyTree) (roots : Roots) → length (decision_of f t roots).findings ≤ length t.validations
unfolding decision_of verdict_of
few_findings f t roots = grind (arith, findings_by, length-map)

-- ---- the state of the program

-- the laws of starts, of later states, and of the ends of runs
pub record Laws : Type 0 where
  pub tables : StartsAreTables
  pub canonical : StartIsCanonical
  pub states : StatesAreKept
  pub once : LimitedStopsOnce

-- what the end of a run within limits tells, and the machine after it
pub record IsEndOf (limits : Limits) (first machine : State) (status : Status) (held : Bool) : Type 0 where
  pub state : machine ≡ state_after (steps_taken limits first) first
  pub status_is : status ≡ machine.status
  pub held_is : held ≡ (nat_lt (steps_taken limits first) limits.steps && is_running status)

pub end_of : (limits : Limits) (first machine : State) (taken : ℕ) (status : Status) (held : Bool) → taken ≡ steps_taken limits first
    → machine ≡ state_after taken first → status ≡ machine.status → held ≡ (nat_lt taken limits.steps && is_running status)
    → IsEndOf limits first machine status held
end_of limits first machine taken status held place state_is status_is held_is = record {
  state = state_is ∙ ap (λ (k : ℕ). state_after k first) place;
  status_is = status_is;
  held_is = held_is ∙ ap (λ (k : ℕ). nat_lt k limits.steps && is_running status) place;
}

-- a refusal of the documents
abbrev IsOfDocuments : RunError → Type 0
IsOfDocuments e = (e ≡ ReviewRefused) ⊎ (e ≡ NamespaceOrParamsRefused)

by_test : (b : Bool) → IsOfDocuments (if b then NamespaceOrParamsRefused else ReviewRefused)
by_test b = grind arith

module _ (gate : GatePolicy) (d : Documents) (of : IsGateOn d.language d.policy gate) (limits : Limits) where
  abbrev policy : IsPolicy d.language d.policy
  policy = record { told = gate.told; parsed = gate.policy; wrapped = gate.wrapped; is_said = of.0; trees = of.1.trees; compiles = of.1.compiles }

  -- what the program left for a review, and the run of its image
  abbrev pub ExitsSo : Result Exit RunError → Type 0
  ExitsSo result = Exits gate.told d limits result × RunAgrees (exactly gate.image) d limits result

  by_documents : (e : RunError) → values_given d ≡ Err e → IsOfDocuments e → ExitsSo (Err e)
  by_documents e is of = grind (arith, policy)

  -- the documents give no table
  pub not_opened : {S : Type 0} (contents : S → Contents) (e : ReviewError)
      → ReviewTableReturns contents (Err e) (parts_given (Some d.review)) (document_given d.namespace) (document_given d.params) → ExitsSo (Err (table_refusal e))
  not_opened contents review_error.Memory h = (tt, tt)
  not_opened contents review_error.InvalidReview h =
      by_documents ReviewRefused (refused_as contents (Some d.review) d.namespace d.params review_error.InvalidReview (λ m. absurd (cc)) h) (inl refl)
  not_opened contents review_error.InvalidDocument h =
      by_documents NamespaceOrParamsRefused (refused_as contents (Some d.review) d.namespace d.params review_error.InvalidDocument (λ m. absurd (cc)) h) (inr refl)
  not_opened contents (review_error.RootRefused k) h =
      by_documents (refusal_at k) (refused_as contents (Some d.review) d.namespace d.params (review_error.RootRefused k) (λ m. absurd (cc)) h) (by_test _)
  not_opened contents review_error.ChargeTooLarge h =
      by_documents ReviewRefused (refused_as contents (Some d.review) d.namespace d.params review_error.ChargeTooLarge (λ m. absurd (cc)) h) (inl refl)

  -- the program has not begun
  pub not_started : (values : Contents) (e : RunError) → values_given d ≡ Ok values → StartsGate gate values (Err e) → ExitsSo (Err e)
  not_started values ReviewRefused given above =
      let own = given_are_started (Some d.review) d.namespace d.params values given in
      (inr (record { policy = policy; own = own.roots; are_given = given ∙ ap Ok own.are; beyond = above own.roots own.are }), tt)
  not_started values Memory given e = (tt, tt)
  not_started values (PolicyRefused e) given is = absurd is
  not_started values NamespaceOrParamsRefused given is = absurd is
  not_started values OutOfSteps given is = absurd is
  not_started values OverLimit given is = absurd is
  not_started values OutOfReads given is = absurd is

  module _ (laws : Laws) (own : Roots) (given : values_given d ≡ Ok (started own)) (own_has : HasValues own (started own))
      (fit : gate.wrapped ≡ true → (gate_contents gate own).charge ≤ charge_limit) where
    abbrev roots : Roots
    roots = placed_roots gate.wrapped own

    has : HasValues roots (started roots)
    has = placed_have_values gate.wrapped own own_has fit

    abbrev f : FailurePolicy
    f = gate.policy.failure_policy

    abbrev first : State
    first = start_state gate.image (started roots)

    abbrev m : ℕ
    m = steps_taken limits first

    abbrev s : State
    s = state_after m first

    abbrev run : PolicyRun d
    run = record {
      case = record { policy = policy; own = own; are_given = given; roots = roots; are_placed = refl; fit = placed_fit gate.wrapped own own_has fit };
      image = gate.image;
      program = of.1.program;
    }

    -- a stopped program has decided
    stopped : is_running s.status ≡ false → Decides f of.1.trees roots (started roots) s
    stopped still = of.1.program.stops roots (started roots) m has still

    decides : 128 * policy_work f of.1.trees roots ≤ m → Decides f of.1.trees roots (started roots) s
    decides far = of.1.program.decides roots (started roots) m has far

    not_running : Decides f of.1.trees roots (started roots) s → s.status ≡ Running → ⊥
    not_running decided running = grind arith

    stop : IsLimitedStop first limits.steps limits.reads m
    stop = (laws.once first limits.steps limits.reads m).1 refl

    standing : (due : Verdict → RunEnding) → ending limits first ≡ due (decision run.case) → PolicyRunEnds (exactly gate.image) d limits due
    standing due is = record { run = run; is_chosen = refl; ends = is }

    unended : s.status ≡ Running → nat_lt m limits.steps ≡ false → ExitsSo (Err OutOfSteps)
    unended running all =
        elim (cases_lt limits.steps (128 * policy_work f of.1.trees roots)) [
          | inl before ↦ (record { case = run.case; early = before }, standing (λ v. out_of_steps) (λ i. ending_by (running i) (all i)))
          | inr not_before ↦ absurd (not_running (decides (omega (arith, not_before, is_not_below m limits.steps all))) running)
        ]

    held_back : s.status ≡ Running → nat_lt m limits.steps ≡ true → ExitsSo (Err OutOfReads)
    held_back running left = (
      record { case = run.case; limited = below_limit limits.reads (reads_to (m + 1) first) (stop.ends (is_below m limits.steps left) running) },
      standing (λ v. out_of_reads) (λ i. ending_by (running i) (left i)),
    )

    stopped_by : (fault : GuestFault) → s.status ≡ Fault fault → Decides f of.1.trees roots (started roots) s → ExitsSo (Err OverLimit)
    stopped_by fault is (OutOfBudget by why) =
        (record { case = run.case; beyond = why }, standing (λ v. has_stopped (Fault F8)) (λ i. ending_by (by i) (nat_lt m limits.steps)))
    stopped_by fault is (LeavesByExit by layout) = cc

    exit_by : (w : ℕ) → s.status ≡ Exited w → Decides f of.1.trees roots (started roots) s → ExitsSo (Ok (record { state = s; uid = uid_in d.review }))
    exit_by w is (OutOfBudget by why) = cc
    exit_by w is (LeavesByExit by layout) =
        let memory = (laws.states.after gate.image (started roots) m of.1.program.code of.1.program.constants has.table).memory in
        let many = compiled_length gate.policy (Ok of.1.trees) of.1.trees of.1.compiles refl in
        let alike = same_form d.language d.policy gate.told gate.policy gate.wrapped of.0 in
        let few : length (decision run.case).findings ≤ length gate.told.validations = omega (arith, few_findings f of.1.trees roots, many, alike.validations) in
        let as_told = subst (λ (g : FailurePolicy). IsLayout g (decision run.case) s.values.values s.memory.verdict) (sym alike.failure_policy) layout in (
          record { case = run.case; of_policy = refl; is_memory = memory; few = few; layout = as_told; uid_is = refl },
          standing (λ v. has_stopped (Exited (outcome_word v.outcome))) (λ i. ending_by (by i) (nat_lt m limits.steps)),
        )

    ended : (machine : State) (status : Status) (held : Bool) → IsEndOf limits first machine status held → HasExited status held (Ok tt)
        → ExitsSo (Ok (record { state = machine; uid = uid_in d.review }))
    ended machine status left end exited =
        let is : s.status ≡ Exited exited.0 = ap (λ (t : State). t.status) (sym end.state) ∙ sym end.status_is ∙ exited.1 in
        subst (λ (t : State). ExitsSo (Ok (record { state = t; uid = uid_in d.review }))) (sym end.state) (exit_by exited.0 is (stopped (ap is_running is)))

    not_ended : (e : NoExit) (status : Status) (held : Bool) → status ≡ s.status → held ≡ (nat_lt m limits.steps && is_running status) → HasExited status held (Err e)
        → ExitsSo (Err (no_exit_error e))
    not_ended no_exit.OutOfSteps status left same is (running, none) = unended (sym same ∙ running) (not_and _ status (sym is ∙ none) running)
    not_ended no_exit.OutOfReads status left same is (running, some) = held_back (sym same ∙ running) (of_and _ _ (sym is ∙ some))
    not_ended Stopped status left same is (fault, faulted) =
        let by : s.status ≡ Fault fault = sym same ∙ faulted in
        stopped_by fault by (stopped (ap is_running by))

  module _ (laws : Laws) (values : Contents) (given : values_given d ≡ Ok values) (start : State) (first : IsFirstState gate values start) where
    own_roots : AreOfRoots values
    own_roots = given_have_values laws.tables laws.canonical (Some d.review) d.namespace d.params values given

    given_roots : values_given d ≡ Ok (started own_roots.roots)
    given_roots = given ∙ ap Ok own_roots.are

    have : HasValues own_roots.roots (started own_roots.roots)
    have = subst (HasValues own_roots.roots) own_roots.are own_roots.has

    begins : IsStart gate own_roots.roots start
    begins = first own_roots.roots own_roots.are

    module _ (machine : State) (status : Status) (held : Bool) (end : IsEndOf limits start machine status held) where
      end_is : IsEndOf limits (start_state gate.image (gate_contents gate own_roots.roots)) machine status held
      end_is = subst (λ (s : State). IsEndOf limits s machine status held) begins.first end

      -- the program has not exited
      pub not_exited : (e : NoExit) → HasExited status held (Err e) → ExitsSo (Err (no_exit_error e))
      not_exited e why =
          not_ended laws own_roots.roots given_roots have begins.fit e status held (end_is.status_is ∙ ap (λ (t : State). t.status) end_is.state) end_is.held_is why

      -- the program has exited
      pub has_exited : (uid : List ℕ) → uid ≡ uid_in d.review → HasExited status held (Ok tt) → ExitsSo (Ok (record { state = machine; uid = uid }))
      has_exited uid same exited =
          subst (λ (u : List ℕ). ExitsSo (Ok (record { state = machine; uid = u }))) (sym same)
          (ended laws own_roots.roots given_roots have begins.fit machine status held end_is exited)

-- ---- the results made from it

-- a refusal of a review is the same for each type of result
pub refused_so : (A B : Type 0) (chosen : Images) (d : Documents) (limits : Limits) (e : RunError) → RunAgrees {A = A} chosen d limits (Err e)
    → RunAgrees {A = B} chosen d limits (Err e)
refused_so A B chosen d limits OutOfSteps stands = stands
refused_so A B chosen d limits OverLimit stands = stands
refused_so A B chosen d limits OutOfReads stands = stands
refused_so A B chosen d limits e stands = tt

-- the word of an outcome gives back the outcome
outcome_told : (o : Outcome) → outcome_of (outcome_word o) ≡ o
outcome_told o = grind arith

-- a reply with this text; it allows the request if the outcome with this word does
pub replied : (p : Policy) (v : Verdict) (uid response : List ℕ) (allowed : Bool) (word : ℕ) → response ≡ response_of p v uid
    → word ≡ outcome_word v.outcome → allowed ≡ is_allowed (outcome_of word) → record { response = response; allowed = allowed } ≡ answer_of p v uid
replied p v uid response allowed word text told allows = grind (arith, outcome_told)

-- what is made of the verdict that was left is made of the policy's decision
made_so : {A : Type 0} (make : Policy → Verdict → List ℕ → A) (p : Policy) (d : Documents) (exit : Exit) (x : A) (is : IsExit p d exit)
    → OfVerdict p exit.state (λ v. x ≡ make p v exit.uid) → x ≡ make is.case.policy.told (decision is.case) (uid_in d.review)
made_so make p d exit x is of =
    of (decision is.case) is.is_memory is.few is.layout ∙ ap (make p (decision is.case)) is.uid_is
    ∙ ap (λ (q : Policy). make q (decision is.case) (uid_in d.review)) (sym is.of_policy)

-- the reply to the verdict that the program left
pub answered : (p : Policy) (d : Documents) (exit : Exit) (answer : Reply) → IsExit p d exit → OfVerdict p exit.state (λ v. answer ≡ answer_of p v exit.uid) → IsAnswered d answer
answered p d exit answer is of = record { case = is.case; answer_is = made_so answer_of p d exit answer is of }

-- the decision with this rejection on the request with this uid
abbrev pub said_by : Option Rejection → List ℕ → Decision
said_by rejection uid = record { rejection = rejection; uid = uid }

-- the decision for the verdict that the program left
pub said_so : (p : Policy) (d : Documents) (exit : Exit) (said : Decision) → IsExit p d exit → OfVerdict p exit.state (λ v. said ≡ decision_from_verdict p v exit.uid) → IsDecisionOf d said
said_so p d exit said is of = record { case = is.case; decision_is = made_so decision_from_verdict p d exit said is of }

-- what the verdict that was left finds
pub found_so : (p : Policy) (d : Documents) (exit : Exit) (found : List PolicyFinding) → IsExit p d exit → OfVerdict p exit.state (λ v. found ≡ findings_of p v) → AreFindingsOf d found
found_so p d exit found is of = record { case = is.case; findings_are = made_so (λ q v uid. findings_of q v) p d exit found is of }
