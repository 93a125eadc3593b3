-- A policy has one result for a review.
use Rattle.gatekeeper_runner.proofs.Prelude.{◌≡◌, ◌≢◌, Limits, Result, Ok, Err, refl, sym, ap, ◌∙◌, decision_of, OneImage, Reply, Documents, answer_of, decision, ReviewHasOneResult, IsAnswerTo, uid_in, IsDecisionOf, Decision, DecidesReview, decision_from_verdict, RunAgrees, RunError, Memory, cases_once, refused_so}
use Rattle.admission.proofs.OneReview.{told_once}
use Rattle.policy_glue.specs.OneAnswer as policy

-- the error is not `Memory`
said_cause : (r : Result Decision RunError) (e : RunError) → r ≡ Err e → r ≢ Err Memory → e ≢ Memory
said_cause r e is some same = some (is ∙ ap Err same)

answer_cause : (r : Result Reply RunError) (e : RunError) → r ≡ Err e → e ≢ Memory → r ≢ Err Memory
answer_cause r e is cause same = let one : e ≡ Memory = cc in cause one

some_answer : (r : Result Reply RunError) (a : Reply) → r ≡ Ok a → r ≢ Err Memory
some_answer r a is same = cc

module _ (compiles_once : policy.CompileHasOneResult) (reviews_once : ReviewHasOneResult) (d : Documents) (limits : Limits) where
  -- a result with a matching run of the program
  abbrev pub IsTrue : Result Decision RunError → Type 0
  IsTrue r = DecidesReview d limits r × RunAgrees OneImage d limits r

  said_same : (x y : Decision) → IsDecisionOf d x → IsDecisionOf d y → x ≡ y
  said_same x y is also =
      let same = cases_once compiles_once d is.case also.case in
      let told = told_once d is.case also.case in
      let both : decision_from_verdict is.case.policy.told (decision is.case) (uid_in d.review) ≡ decision_from_verdict also.case.policy.told (decision also.case) (uid_in d.review) =
      λ i. decision_from_verdict (told i) (decision_of (same.0 i).failure_policy (same.1 i) (same.2 i)) (uid_in d.review) in
      is.decision_is ∙ both ∙ sym also.decision_is

  -- a review with a decision has an answer
  answered : (x : Decision) → IsTrue (Ok x) → (a : Reply) × IsAnswerTo d limits (Ok a)
  answered x is = (answer_of is.0.case.policy.told (decision is.0.case) (uid_in d.review), record { reviews = record { case = is.0.case; answer_is = refl }; runs = is.1 })

  -- a review with an error has this error as its result
  refused : (e : RunError) → IsTrue (Err e) → IsAnswerTo d limits (Err e)
  refused e is = record { reviews = is.0; runs = refused_so Decision Reply OneImage d limits e is.1 }

  not_both : (x : Decision) (e : RunError) → e ≢ Memory → IsTrue (Ok x) → IsTrue (Err e) → ⊥
  not_both x e cause is also =
      let a = answered x is in
      let same = reviews_once d limits (Ok a.0) (Err e) (some_answer (Ok a.0) a.0 refl) (answer_cause (Err e) e refl cause) a.1 (refused e also) in cc

  pub says_once : (r s : Result Decision RunError) → r ≢ Err Memory → s ≢ Err Memory → IsTrue r → IsTrue s → r ≡ s
  says_once (Ok x) (Ok y) some other is also = ap Ok (said_same x y is.0 also.0)
  says_once (Ok x) (Err f) some other is also = absurd (not_both x f (said_cause (Err f) f refl other) is also)
  says_once (Err e) (Ok y) some other is also = absurd (not_both y e (said_cause (Err e) e refl some) also is)
  says_once (Err e) (Err f) some other is also =
      let none = answer_cause (Err e) e refl (said_cause (Err e) e refl some) in
      let neither = answer_cause (Err f) f refl (said_cause (Err f) f refl other) in
      let same = reviews_once d limits (Err e) (Err f) none neither (refused e is) (refused f also) in
      let cause : e ≡ f = cc in ap Err cause
