-- What policies of the wide language decide.
use Rattle.std.specs.Prelude.{◌≡◌, Ok}
use Rattle.cel_macros.specs.Environment.{Roots}
use Rattle.wide_reader.specs.Tree.{Wide}
use Rattle.wide_meaning.specs.Environment.{WideEnvironment}
use Rattle.wide_meaning.specs.Outcome.{Outcome}
use Rattle.policy_glue.specs.Policy.{Policy}
use Rattle.wide_policy.specs.Reading.{IsWideTree}
use Rattle.wide_policy.specs.WideEvaluation.{wide_decision_of}
use Rattle.wide_policy.specs.WideTrees.{WidePolicyTree}
use Rattle.wide_policy.specs.declared.message_rule.MessageRule.{MessageRule}
use Rattle.admission.specs.Deciding.{Case, Documents, Reply, IsAnswered, answer_of, decision, started, values_given}
use Rattle.admission.specs.Reviews.{uid_in}
use Rattle.admission.specs.declared.language.Language.TheVariants.{Wide as InWide}

-- the texts of the policy are these wide expressions, and it decides by their meaning, for any meaning of the calls that
-- `wide_meaning` leaves open
pub record DecidesAsMeant {d : Documents} (others : Wide → WideEnvironment → Outcome) (case : Case d) : Type 0 where
  pub wide : WidePolicyTree
  pub texts : IsWideTree case.policy.told wide
  pub decides : decision case ≡ wide_decision_of others case.policy.told.failure_policy wide case.own

-- a case whose policy is in the wide language is decided as its wide expressions mean
abbrev pub WideCasesDecide : Type 0
WideCasesDecide = (others : Wide → WideEnvironment → Outcome) (d : Documents) (rule : MessageRule) (case : Case d)
    → d.language ≡ InWide rule → DecidesAsMeant others case

-- the reply to a review under a policy in the wide language: the one for the verdict of its wide expressions on the roots
-- in the documents
pub record IsWideAnswered (others : Wide → WideEnvironment → Outcome) (d : Documents) (answer : Reply) : Type 0 where
  pub told : Policy
  pub wide : WidePolicyTree
  pub texts : IsWideTree told wide
  pub roots : Roots
  pub are_given : values_given d ≡ Ok (started roots)
  pub answer_is : answer ≡ answer_of told (wide_decision_of others told.failure_policy wide roots) (uid_in d.review)

-- so a reply is the one for that verdict
abbrev pub WideReviewsAnswer : Type 0
WideReviewsAnswer = (others : Wide → WideEnvironment → Outcome) (d : Documents) (rule : MessageRule) (answer : Reply)
    → d.language ≡ InWide rule → IsAnswered d answer → IsWideAnswered others d answer
