-- A policy finds nothing exactly if its verdict allows the request.
use Rattle.std.proofs.Common.{◌≡◌, ◌∙◌, ◌+◌, ◌∷◌, ℕ, List, [], Bool, true, false, Option, Some, None, arith, length, map, refl, sym}
use Rattle.std.proofs.lemmas.List.{length-map}
use Rattle.std.specs.List.{list_all, list_any}
use Rattle.std.specs.Prelude.{◌||◌, if◌then◌else◌}
use Rattle.cel_macros.specs.Environment.{Roots}
use Rattle.policy_glue.specs.Evaluation.{condition_values, decision_of, environment_with, validation_value, validation_values, values_of}
use Rattle.policy_glue.specs.Findings.{PolicyFinding, before_others, finding_at, findings_by, findings_from, findings_of}
use Rattle.policy_glue.specs.Policy.{Policy, Validation}
use Rattle.policy_glue.specs.Trees.{PolicyTree}
use Rattle.policy_glue.specs.Verdict.{CheckResult, Errs, Fails, Finding, Holds, Verdict, decided, denies, finding_of, is_denial, is_failed, is_held, judged_by, truth_of, undecided, verdict_of}
use Rattle.policy_glue.specs.declared.failure_policy.FailurePolicy.{FailurePolicy, TheVariants.Fail, TheVariants.Ignore}
use Rattle.policy_glue.specs.declared.outcome.Outcome.{TheVariants.Skipped, TheVariants.Denied, TheVariants.Admitted}
use Rattle.admission.specs.Deciding.{is_allowed}

-- something is found
pub record HasSome (fs : List PolicyFinding) : Type 0 where
  pub head : PolicyFinding
  pub rest : List PolicyFinding
  pub are : fs ≡ head ∷ rest

-- nothing is found exactly if this is true
pub record NoneExactlyIf (allowed : Bool) (fs : List PolicyFinding) : Type 0 where
  pub none : allowed ≡ true → fs ≡ []
  pub some : allowed ≡ false → HasSome fs

at_one : (f : FailurePolicy) (t : CheckResult) (i : ℕ) (r : Validation) (text : Option (List ℕ)) (rest : List PolicyFinding) (others : Bool)
    → (denies f t || others) ≡ true → (others ≡ true → HasSome rest) → HasSome (before_others (finding_at f i r t text) rest)
at_one Fail Holds i r text rest others e h = h e
at_one Ignore Holds i r text rest others e h = h e
at_one Fail Fails i r text rest others e h = record { head = _; rest = rest; are = refl }
at_one Ignore Fails i r text rest others e h = record { head = _; rest = rest; are = refl }
at_one Fail Errs i r text rest others e h = record { head = _; rest = rest; are = refl }
at_one Ignore Errs i r text rest others e h = h e

some_found : (f : FailurePolicy) (i : ℕ) (rs : List Validation) (xs : List Finding) → length rs ≡ length xs → list_any (is_denial f) xs ≡ true
    → HasSome (findings_from f i rs xs)
some_found f i [] [] same e = absurd (cc)
some_found f i [] (x ∷ xs) same e = absurd (omega (arith, same))
some_found f i (r ∷ rs) [] same e = absurd (omega (arith, same))
some_found f i (r ∷ rs) (x ∷ xs) same e =
    at_one f x.truth i r x.message (findings_from f (i + 1) rs xs) (list_any (is_denial f) xs) e (some_found f (i + 1) rs xs (omega (arith, same)))

module _ (f : FailurePolicy) (rs : List Validation) where
  -- what a verdict finds
  abbrev found_by : Verdict → List PolicyFinding
  found_by v = findings_by v.outcome (findings_from f 0 rs v.findings)

  when_judged : (xs : List Finding) (denied : Bool) → length rs ≡ length xs → list_any (is_denial f) xs ≡ denied
      → NoneExactlyIf (is_allowed (if denied then Denied else Admitted)) (findings_by (if denied then Denied else Admitted) (findings_from f 0 rs xs))
  when_judged xs true same e = record { none = λ no. absurd (cc); some = λ no. some_found f 0 rs xs same e }
  when_judged xs false same e = record { none = λ no. refl; some = λ no. absurd (cc) }

  when_undecided : (g : FailurePolicy) → NoneExactlyIf (is_allowed (undecided g)) (findings_by (undecided g) (findings_from f 0 rs []))
  when_undecided Fail = record { none = λ no. absurd (cc); some = λ no. record { head = _; rest = []; are = refl } }
  when_undecided Ignore = record { none = λ no. refl; some = λ no. absurd (cc) }

  by_tests : (failed held : Bool) (xs : List Finding) → length rs ≡ length xs
      → let v = decided (if failed then Some Skipped else (if held then None else Some (undecided f))) (judged_by f xs) in NoneExactlyIf (is_allowed v.outcome) (found_by v)
  by_tests true held xs same = record { none = λ no. refl; some = λ no. absurd (cc) }
  by_tests false false xs same = when_undecided f
  by_tests false true xs same = when_judged xs (list_any (is_denial f) xs) same refl

-- the decision of a policy finds nothing exactly if it allows the request
pub found_or_allowed : (p : Policy) (t : PolicyTree) (roots : Roots) → length t.validations ≡ length p.validations
    → NoneExactlyIf (is_allowed (decision_of p.failure_policy t roots).outcome) (findings_of p (decision_of p.failure_policy t roots))
unfolding decision_of verdict_of
found_or_allowed p t roots same =
    let conditions = map truth_of (condition_values roots t.conditions) in
    let values = validation_values roots t in
    by_tests p.failure_policy p.validations (list_any is_failed conditions) (list_all is_held conditions) (map (finding_of p.failure_policy) values)
    (sym same ∙ (sym (length-map t.validations (validation_value (environment_with roots (values_of roots t.variables)))) ∙ sym (length-map values (finding_of p.failure_policy))))
