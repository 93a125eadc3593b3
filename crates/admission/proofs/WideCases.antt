-- What policies of the wide language decide.
use Rattle.admission.proofs.Prelude.{◌≡◌, ◌∙◌, ap, subst, Roots, decision_of, Verdict, IsSaid, Language, uid_in}
use Rattle.wide_policy.specs.Laws.{WidePoliciesDecide}
use Rattle.admission.specs.Deciding.{answer_of}
use Rattle.admission.specs.WideCases.{WideCasesDecide, WideReviewsAnswer}

pub cases_decide : WidePoliciesDecide → WideCasesDecide
cases_decide law others d rule case is =
    let said = subst (λ (l : Language). IsSaid l d.policy case.policy.told case.policy.parsed case.policy.wrapped) is case.policy.is_said in
    let by = law rule d.policy _ said.1 in
    record {
      wide = by.wide.0;
      texts = by.wide.1;
      decides = ap (λ (r : Roots). decision_of case.policy.parsed.failure_policy case.policy.trees r) case.are_placed
          ∙ by.decides by.wide.0 case.policy.trees others case.own by.wide.1 case.policy.compiles;
    }

pub reviews_answer : WidePoliciesDecide → WideReviewsAnswer
reviews_answer law others d rule answer is answered =
    let means = cases_decide law others d rule answered.case is in
    record {
      told = answered.case.policy.told;
      wide = means.wide;
      texts = means.texts;
      roots = answered.case.own;
      are_given = answered.case.are_given;
      answer_is = answered.answer_is ∙ ap (λ (v : Verdict). answer_of answered.case.policy.told v (uid_in d.review)) means.decides;
    }
