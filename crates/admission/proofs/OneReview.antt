-- A review has one result.
use Rattle.admission.proofs.Prelude.{◌≡◌, ◌∙◌, ℕ, Bool, false, Some, List, Result, Ok, Err, ap, arith, refl, sym, subst, inl, inr, F8, Roots, start_state, Exited, decision_of, outcome_word, OneImage, HasOneImage, Compiles, Policy, PolicyTree, Verdict, CompileError, Reply, Case, Documents, IsAnswered, IsPolicy, decision, started, values_given, ReviewHasOneResult, PolicyRunEnds, RunAgrees, uid_in, Profile, RunError, ReviewRefused, NamespaceOrParamsRefused, OutOfSteps, OverLimit, OutOfReads}
use Rattle.std.specs.Prelude.{◌≢◌, ◌<◌}
use Rattle.value_store.specs.Placing.{charge_limit}
use Rattle.bpf_machine.specs.declared.status.Status.TheVariants as status
use Rattle.policy_glue.specs.Findings.{PolicyFinding, findings_of}
use Rattle.policy_glue.specs.OneAnswer as policy
use Rattle.admission.specs.Deciding.{AreTooLarge, HasNoResponse, IsPolicyRefused, answer_of, placed_roots}
use Rattle.admission.specs.Findings.{AreFindingsOf}
use Rattle.admission.specs.OneAnswer.{FindingsHaveOneResult}
use Rattle.admission.specs.Standing.{RunEnding, begins, ending, has_stopped, out_of_reads, out_of_steps}
use Rattle.admission.specs.declared.limits.Limits.{Limits}
use Rattle.admission.specs.declared.policy_refusal.PolicyRefusal.{PolicyRefusal}
use Rattle.admission.specs.declared.policy_refusal.PolicyRefusal.TheVariants as policy_refusal
use Rattle.admission.specs.declared.run_error.RunError.TheVariants.{PolicyRefused, Memory}
use Rattle.admission.proofs.Results.{not_both, ok_same}
use Rattle.admission.proofs.RootContents.{given_fit}
use Rattle.admission.proofs.Said.{IsOnePolicy, profile_plain, profile_said, said_once}

-- equal contents at the start have equal roots
pub roots_once : (r s : Roots) → started r ≡ started s → r ≡ s
roots_once r s is = grind arith

-- the documents give one policy
policies_once : (d : Documents) (p q : IsPolicy d.language d.policy) → IsOnePolicy p.told p.parsed q.told q.parsed p.wrapped q.wrapped
policies_once d p q = said_once d.language d.policy p.told p.parsed q.told q.parsed p.wrapped q.wrapped p.is_said q.is_said

pub told_once : (d : Documents) (c e : Case d) → c.policy.told ≡ e.policy.told
told_once d c e = (policies_once d c.policy e.policy).told_is

trees_once : policy.CompileHasOneResult → (p q : Policy) (t u : PolicyTree) → p ≡ q → Compiles p (Ok t) → Compiles q (Ok u) → t ≡ u
trees_once compiles p q t u same a b =
    let both : ◌≡◌ {A = Result PolicyTree CompileError} (Ok t) (Ok u) = compiles q (Ok t) (Ok u) (subst (λ (x : Policy). Compiles x (Ok t)) same a) b in cc

-- the documents give the roots of one review
own_once : (d : Documents) (r s : Roots) → values_given d ≡ Ok (started r) → values_given d ≡ Ok (started s) → r ≡ s
own_once d r s is also = roots_once r s (ok_same (values_given d) (started r) (started s) is also)

placed_once : (d : Documents) (c e : Case d) → c.roots ≡ e.roots
placed_once d c e =
    c.are_placed ∙ (λ i. placed_roots ((policies_once d c.policy e.policy).wrapped_is i) (own_once d c.own e.own c.are_given e.are_given i)) ∙ sym e.are_placed

-- the program of a policy in the profile runs on the roots of the documents
pub plain_roots : (d : Documents) (c : Case d) → c.policy.wrapped ≡ false → c.roots ≡ c.own
plain_roots d c plain = c.are_placed ∙ ap (λ (w : Bool). placed_roots w c.own) plain

pub profile_roots : (d : Documents) (c : Case d) → d.language ≡ Profile → c.roots ≡ c.own
profile_roots d c profile = plain_roots d c (profile_plain d c.policy.told c.policy.parsed c.policy.wrapped profile c.policy.is_said)

-- so these are not too large for it
pub profile_fits : (d : Documents) → d.language ≡ Profile → AreTooLarge d → ⊥
profile_fits d profile large =
    let plain = profile_plain d large.policy.told large.policy.parsed large.policy.wrapped profile large.policy.is_said in
    let beyond : charge_limit < (started large.own).charge = subst (λ (w : Bool). charge_limit < (started (placed_roots w large.own)).charge) plain large.beyond in
    let within = given_fit (Some d.review) d.namespace d.params (started large.own) large.are_given in
    omega (arith, beyond, within)

-- roots that are too large are those of no case
no_room : (d : Documents) → AreTooLarge d → Case d → ⊥
no_room d large c =
    let same : placed_roots large.policy.wrapped large.own ≡ c.roots =
    (λ i. placed_roots ((policies_once d large.policy c.policy).wrapped_is i) (own_once d large.own c.own large.are_given c.are_given i)) ∙ sym c.are_placed in
    let beyond : charge_limit < (started c.roots).charge = subst (λ (r : Roots). charge_limit < (started r).charge) same large.beyond in
    let fit = c.fit in
    omega (arith, beyond, fit)

-- the documents give one case
pub cases_once : policy.CompileHasOneResult → (d : Documents) (c e : Case d) → (c.policy.parsed ≡ e.policy.parsed) × (c.policy.trees ≡ e.policy.trees) × (c.roots ≡ e.roots)
cases_once compiles d c e =
    let same = (policies_once d c.policy e.policy).parsed_is in (
      same,
      trees_once compiles c.policy.parsed e.policy.parsed c.policy.trees e.policy.trees same c.policy.compiles e.policy.compiles,
      placed_once d c e,
    )

module _ (compiles : policy.CompileHasOneResult) (images : HasOneImage) (d : Documents) (limits : Limits) where
  decisions_once : (c e : Case d) → decision c ≡ decision e
  decisions_once c e = let same = cases_once compiles d c e in λ i. decision_of (same.0 i).failure_policy (same.1 i) (same.2 i)

  -- the run of the one image has one end
  ends_once : (due other : Verdict → RunEnding) (is : PolicyRunEnds OneImage d limits due) (also : PolicyRunEnds OneImage d limits other) → due (decision also.run.case) ≡ other (decision also.run.case)
  ends_once due other is also =
      let c = is.run.case in
      let e = also.run.case in
      let same = cases_once compiles d c e in
      let image : is.run.image ≡ also.run.image = images e.policy.parsed is.run.image also.run.image (subst (λ (p : Policy). OneImage p is.run.image) same.0 is.is_chosen) also.is_chosen in
      let end : ending limits (begins is.run) ≡ ending limits (begins also.run) = λ i. ending limits (start_state (image i) (started (same.2 i))) in
      sym (ap due (decisions_once c e)) ∙ sym is.ends ∙ end ∙ also.ends

  -- the end that an error shows
  data Shows : RunError → RunEnding → Type 0 where
    runs : Shows OutOfSteps out_of_steps
    is_held : Shows OutOfReads out_of_reads
    is_stopped : Shows OverLimit (has_stopped (status.Fault F8))

  -- why there is no response
  data Cause : RunError → Type 0 where
    by_policy : (e : PolicyRefusal) → d.language ≡ Profile → IsPolicyRefused d.policy e → Cause (PolicyRefused e)
    by_values : {e : RunError} → IsPolicy d.language d.policy → values_given d ≡ Err e → Cause e
    by_size : AreTooLarge d → Cause ReviewRefused
    by_run : {e : RunError} {due : RunEnding} → PolicyRunEnds OneImage d limits (λ v. due) → Shows e due → Cause e

  cause_of : (A : Type 0) (e : RunError) → (e ≡ Memory → ⊥) → HasNoResponse d limits e → RunAgrees {A = A} OneImage d limits (Err e) → Cause e
  cause_of A (PolicyRefused e) some why agrees = by_policy e why.0 why.1
  cause_of A ReviewRefused some (inl why) agrees = by_values why.0 why.1
  cause_of A ReviewRefused some (inr why) agrees = by_size why
  cause_of A NamespaceOrParamsRefused some why agrees = by_values why.0 why.1
  cause_of A OutOfSteps some why agrees = by_run agrees runs
  cause_of A OverLimit some why agrees = by_run agrees is_stopped
  cause_of A OutOfReads some why agrees = by_run agrees is_held
  cause_of A Memory some why agrees = absurd (some refl)

  no_policy : (e : PolicyRefusal) → d.language ≡ Profile → IsPolicyRefused d.policy e → IsPolicy d.language d.policy → ⊥
  no_policy (policy_refusal.Unread e) profile why p = let both = sym (profile_said d p.told p.parsed p.wrapped profile p.is_said) ∙ why in absurd (cc)
  no_policy (policy_refusal.Uncompiled e) profile (q, is, unfit) p =
      let same : p.parsed ≡ q = (let both = sym (profile_said d p.told p.parsed p.wrapped profile p.is_said) ∙ is in cc) in
      let both : ◌≡◌ {A = Result PolicyTree CompileError} (Ok p.trees) (Err e) = compiles q (Ok p.trees) (Err e) (subst (λ (x : Policy). Compiles x (Ok p.trees)) same p.compiles) unfit in absurd (cc)
  no_policy policy_refusal.Memory profile why p = why

  no_values : (e : RunError) → values_given d ≡ Err e → Case d → ⊥
  no_values e is c = not_both (values_given d) (started c.own) e c.are_given is

  no_size : (e : RunError) → values_given d ≡ Err e → AreTooLarge d → ⊥
  no_size e is large = not_both (values_given d) (started large.own) e large.are_given is

  refusals_once : (e f : PolicyRefusal) → IsPolicyRefused d.policy e → IsPolicyRefused d.policy f → e ≡ f
  refusals_once (policy_refusal.Unread e) (policy_refusal.Unread f) is also = let both = sym is ∙ also in cc
  refusals_once (policy_refusal.Unread e) (policy_refusal.Uncompiled f) is (q, also, unfit) = let both = sym is ∙ also in absurd (cc)
  refusals_once (policy_refusal.Unread e) policy_refusal.Memory is also = absurd also
  refusals_once (policy_refusal.Uncompiled e) (policy_refusal.Unread f) (p, is, why) also = let both = sym is ∙ also in absurd (cc)
  refusals_once (policy_refusal.Uncompiled e) (policy_refusal.Uncompiled f) (p, is, why) (q, also, unfit) =
      let same : p ≡ q = (let both = sym is ∙ also in cc) in
      let both : ◌≡◌ {A = Result PolicyTree CompileError} (Err e) (Err f) = compiles q (Err e) (Err f) (subst (λ (x : Policy). Compiles x (Err e)) same why) unfit in
      let error : e ≡ f = cc in ap policy_refusal.Uncompiled error
  refusals_once (policy_refusal.Uncompiled e) policy_refusal.Memory is also = absurd also
  refusals_once policy_refusal.Memory f is also = absurd is

  shown_once : (e f : RunError) (due other : RunEnding) → due ≡ other → Shows e due → Shows f other → e ≡ f
  shown_once _ _ _ _ same runs runs = refl
  shown_once _ _ _ _ same runs is_held = absurd (cc)
  shown_once _ _ _ _ same runs is_stopped = absurd (cc)
  shown_once _ _ _ _ same is_held runs = absurd (cc)
  shown_once _ _ _ _ same is_held is_held = refl
  shown_once _ _ _ _ same is_held is_stopped = absurd (cc)
  shown_once _ _ _ _ same is_stopped runs = absurd (cc)
  shown_once _ _ _ _ same is_stopped is_held = absurd (cc)
  shown_once _ _ _ _ same is_stopped is_stopped = refl

  causes_once : (e f : RunError) → Cause e → Cause f → e ≡ f
  causes_once _ _ (by_policy e profile is) (by_policy f other also) = ap PolicyRefused (refusals_once e f is also)
  causes_once _ _ (by_policy e profile is) (by_values p also) = absurd (no_policy e profile is p)
  causes_once _ _ (by_policy e profile is) (by_size also) = absurd (no_policy e profile is also.policy)
  causes_once _ _ (by_policy e profile is) (by_run also shown) = absurd (no_policy e profile is also.run.case.policy)
  causes_once _ _ (by_values p is) (by_policy f other also) = absurd (no_policy f other also p)
  causes_once e f (by_values p is) (by_values q also) = let both = sym is ∙ also in cc
  causes_once e _ (by_values p is) (by_size also) = absurd (no_size e is also)
  causes_once e _ (by_values p is) (by_run also shown) = absurd (no_values e is also.run.case)
  causes_once _ _ (by_size is) (by_policy f other also) = absurd (no_policy f other also is.policy)
  causes_once _ f (by_size is) (by_values q also) = absurd (no_size f also is)
  causes_once _ _ (by_size is) (by_size also) = refl
  causes_once _ _ (by_size is) (by_run also shown) = absurd (no_room d is also.run.case)
  causes_once _ _ (by_run is shown) (by_policy f other also) = absurd (no_policy f other also is.run.case.policy)
  causes_once _ f (by_run is shown) (by_values q also) = absurd (no_values f also is.run.case)
  causes_once _ _ (by_run is shown) (by_size also) = absurd (no_room d also is.run.case)
  causes_once e f (by_run {due = due} is shown) (by_run {due = other} also told) = shown_once e f due other (ends_once (λ v. due) (λ v. other) is also) shown told

  -- a program that has exited has no such cause
  no_exit : (w : ℕ) (e : RunError) (due : RunEnding) → has_stopped (Exited w) ≡ due → Shows e due → ⊥
  no_exit w _ _ same runs = absurd (cc)
  no_exit w _ _ same is_held = absurd (cc)
  no_exit w _ _ same is_stopped = absurd (cc)

  exited : (e : RunError) → PolicyRunEnds OneImage d limits (λ v. has_stopped (Exited (outcome_word v.outcome))) → Cause e → ⊥
  exited _ ran (by_policy e profile is) = no_policy e profile is ran.run.case.policy
  exited e ran (by_values p is) = no_values e is ran.run.case
  exited _ ran (by_size is) = no_room d is ran.run.case
  exited e ran (by_run {due = due} is shown) = no_exit _ e due (ends_once (λ v. has_stopped (Exited (outcome_word v.outcome))) (λ v. due) ran is) shown

  module _ {A : Type 0} (Gives : A → Type 0) (once : (x y : A) → Gives x → Gives y → x ≡ y) where
    -- a value, or an error that the review may have
    abbrev Says : Result A RunError → Type 0
    Says (Ok x) = Gives x
    Says (Err e) = HasNoResponse d limits e

    some_error : (e : RunError) → ◌≢◌ {A = Result A RunError} (Err e) (Err Memory) → e ≡ Memory → ⊥
    some_error e some is = some (ap Err is)

    one_result : (a b : Result A RunError) → a ≢ Err Memory → b ≢ Err Memory → Says a → RunAgrees OneImage d limits a → Says b → RunAgrees OneImage d limits b → a ≡ b
    one_result (Ok x) (Ok y) some other is ran also agrees = ap Ok (once x y is also)
    one_result (Ok x) (Err f) some other is ran also agrees = absurd (exited f ran (cause_of A f (some_error f other) also agrees))
    one_result (Err e) (Ok y) some other is ran also agrees = absurd (exited e agrees (cause_of A e (some_error e some) is ran))
    one_result (Err e) (Err f) some other is ran also agrees =
        ap Err (causes_once e f (cause_of A e (some_error e some) is ran) (cause_of A f (some_error f other) also agrees))

  replies_once : (x y : Reply) → IsAnswered d x → IsAnswered d y → x ≡ y
  replies_once x y is also =
      is.answer_is ∙ (λ i. answer_of (told_once d is.case also.case i) (decisions_once is.case also.case i) (uid_in d.review)) ∙ sym also.answer_is

  found_once : (x y : List PolicyFinding) → AreFindingsOf d x → AreFindingsOf d y → x ≡ y
  found_once x y is also =
      is.findings_are ∙ (λ i. findings_of (told_once d is.case also.case i) (decisions_once is.case also.case i)) ∙ sym also.findings_are

pub one_review : policy.CompileHasOneResult → HasOneImage → ReviewHasOneResult
one_review compiles images d limits (Ok x) (Ok y) some other is also =
    one_result compiles images d limits (IsAnswered d) (replies_once compiles images d limits) (Ok x) (Ok y) some other is.reviews is.runs also.reviews also.runs
one_review compiles images d limits (Ok x) (Err f) some other is also =
    one_result compiles images d limits (IsAnswered d) (replies_once compiles images d limits) (Ok x) (Err f) some other is.reviews is.runs also.reviews also.runs
one_review compiles images d limits (Err e) (Ok y) some other is also =
    one_result compiles images d limits (IsAnswered d) (replies_once compiles images d limits) (Err e) (Ok y) some other is.reviews is.runs also.reviews also.runs
one_review compiles images d limits (Err e) (Err f) some other is also =
    one_result compiles images d limits (IsAnswered d) (replies_once compiles images d limits) (Err e) (Err f) some other is.reviews is.runs also.reviews also.runs

pub one_list : policy.CompileHasOneResult → HasOneImage → FindingsHaveOneResult
one_list compiles images d limits (Ok x) (Ok y) some other is also =
    one_result compiles images d limits (AreFindingsOf d) (found_once compiles images d limits) (Ok x) (Ok y) some other is.finds is.runs also.finds also.runs
one_list compiles images d limits (Ok x) (Err f) some other is also =
    one_result compiles images d limits (AreFindingsOf d) (found_once compiles images d limits) (Ok x) (Err f) some other is.finds is.runs also.finds also.runs
one_list compiles images d limits (Err e) (Ok y) some other is also =
    one_result compiles images d limits (AreFindingsOf d) (found_once compiles images d limits) (Err e) (Ok y) some other is.finds is.runs also.finds also.runs
one_list compiles images d limits (Err e) (Err f) some other is also =
    one_result compiles images d limits (AreFindingsOf d) (found_once compiles images d limits) (Err e) (Err f) some other is.finds is.runs also.finds also.runs
