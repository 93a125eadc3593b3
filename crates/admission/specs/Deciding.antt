-- The result of a review under a policy.
use Rattle.std.specs.Prelude.{◌≡◌, ℕ, ◌+◌, ◌*◌, ◌<◌, ◌≤◌, ◌⊎◌, Bool, true, false, List, [], ◌∷◌, ◌++◌, map, Option, Some, Result, Ok, Err, Vec}
use Rattle.std.specs.declared.alloc.Global.{Global}
use Rattle.bpf_machine.specs.Reads.{no_limit}
use Rattle.value_store.specs.Placing.{Contents, charge_limit, first_values}
use Rattle.value_store.specs.Roots.{sizes}
use Rattle.value_store.specs.Value.{Value, value}
use Rattle.cel_macros.specs.Environment.{Roots}
use Rattle.expression_code.specs.Limits.{charge_per_unit, steps_per_visit}
use Rattle.policy_glue.specs.Budget.{IsDeepPolicy, policy_spent, policy_work}
use Rattle.policy_glue.specs.Compiled.{IsCompiled}
use Rattle.policy_glue.specs.Evaluation.{decision_of}
use Rattle.policy_glue.specs.Limits.{Compiles}
use Rattle.policy_glue.specs.Policy.{Policy}
use Rattle.policy_glue.specs.Reading.{policy_in}
use Rattle.policy_glue.specs.Response.{response_of}
use Rattle.policy_glue.specs.Trees.{PolicyTree}
use Rattle.policy_glue.specs.Verdict.{Verdict}
use Rattle.policy_glue.specs.declared.outcome.Outcome.{Outcome, TheVariants.Skipped, TheVariants.Admitted}
use Rattle.wide_translation.specs.Placed.{placed}
use Rattle.wide_indices.specs.Tables.{index_tables, table_length}
use Rattle.wide_policy.specs.Reading.{IsWidePolicy, WidePolicyReturns}
use Rattle.wide_policy.specs.declared.left_out.LeftOut.{LeftOut}
use Rattle.wide_policy.specs.declared.message_rule.MessageRule.{MessageRule}
use Rattle.wide_policy.specs.declared.wide_policy_error.WidePolicyError.TheVariants as wide_error
use Rattle.admission.specs.GatePolicies.{GatePolicy}
use Rattle.admission.specs.Reviews.{contents_given, uid_in}
use Rattle.admission.specs.declared.language.Language.{Language, TheVariants.Profile, TheVariants.Wide}
use Rattle.admission.specs.declared.limits.Limits.{Limits}
use Rattle.admission.specs.declared.policy_and_image.PolicyAndImage.{PolicyAndImage}
use Rattle.admission.specs.declared.policy_refusal.PolicyRefusal.{PolicyRefusal, TheVariants.Unread, TheVariants.Uncompiled}
use Rattle.admission.specs.declared.policy_refusal.PolicyRefusal.TheVariants as policy_refusal
use Rattle.admission.specs.declared.reply.Reply.{Reply as CodeReply}
use Rattle.admission.specs.declared.run_error.RunError.{RunError}
use Rattle.admission.specs.declared.run_error.RunError.TheVariants.{PolicyRefused, ReviewRefused, NamespaceOrParamsRefused}
use Rattle.admission.specs.declared.run_error.RunError.TheVariants.{OutOfSteps, OverLimit, OutOfReads, Memory}
use Rattle.admission.specs.declared.wide_gate.WideGate.{WideGate}
use Rattle.admission.specs.declared.wide_refusal.WideRefusal.{WideRefusal}
use Rattle.admission.specs.declared.wide_refusal.WideRefusal.TheVariants as wide_refusal

-- ---- replies

-- the text of a response, and whether it allows the request
pub record Reply : Type 0 where
  pub response : List ℕ
  pub allowed : Bool

-- whether an outcome allows the request
abbrev pub is_allowed : Outcome → Bool
is_allowed Skipped = true
is_allowed Admitted = true
is_allowed _ = false

-- the reply to the request with this uid, for a verdict
abbrev pub answer_of : Policy → Verdict → List ℕ → Reply
answer_of p v uid = record { response = response_of p v uid; allowed = is_allowed v.outcome }

-- the code's result, in the terms of this file
abbrev pub answer_view : Result CodeReply RunError → Result Reply RunError
answer_view (Ok reply) = Ok (record { response = reply.response.items; allowed = reply.allowed })
answer_view (Err e) = Err e

-- ---- policies

-- The policy in a document of this language: with the texts of its author, which messages tell, and as it is compiled.
-- In the wide language these are its translations, and the first has no message expressions that are left out. The
-- program of one whose translations are `wrapped` runs on roots with a table of indices beside the params.
abbrev pub IsSaid : Language → List ℕ → Policy → Policy → Bool → Type 0
IsSaid Profile document told parsed wrapped = (policy_in document ≡ Ok parsed) × (told ≡ parsed) × (wrapped ≡ false)
IsSaid (Wide rule) document told parsed wrapped =
    (notes : Vec LeftOut Global)
    × IsWidePolicy rule document (record { source = told; profile = parsed; left_out = notes; wrapped = wrapped })

-- the document holds a policy that compiles
pub record IsPolicy (language : Language) (document : List ℕ) : Type 0 where
  pub told : Policy
  pub parsed : Policy
  pub wrapped : Bool
  pub is_said : IsSaid language document told parsed wrapped
  pub trees : PolicyTree
  pub compiles : Compiles parsed (Ok trees)

-- why a document gives no image
abbrev pub IsPolicyRefused : List ℕ → PolicyRefusal → Type 0
IsPolicyRefused document (Unread e) = policy_in document ≡ Err e
IsPolicyRefused document (Uncompiled e) = (p : Policy) × (policy_in document ≡ Ok p) × Compiles p (Err e)
IsPolicyRefused document policy_refusal.Memory = ⊥

-- the document holds this policy, and this is an image of it
abbrev pub IsPolicyOf : List ℕ → PolicyAndImage → Type 0
IsPolicyOf document c = (policy_in document ≡ Ok c.policy) × IsCompiled c.policy c.image

-- the policy and its image, or why there is none; or an allocation failed
abbrev pub CompilesDocument : List ℕ → Result PolicyAndImage PolicyRefusal → Type 0
CompilesDocument document (Ok c) = IsPolicyOf document c
CompilesDocument document (Err (Unread e)) = IsPolicyRefused document (Unread e)
CompilesDocument document (Err (Uncompiled e)) = IsPolicyRefused document (Uncompiled e)
CompilesDocument document (Err policy_refusal.Memory) = Unit {0}

-- ---- gates

-- the document holds the policy of this gate, and its image is one of that policy
abbrev pub IsGateOn : Language → List ℕ → GatePolicy → Type 0
IsGateOn language document g = IsSaid language document g.told g.policy g.wrapped × IsCompiled g.policy g.image

-- the gate of a document in the language that is compiled, or why there is none; or an allocation failed
abbrev pub OpensGate : List ℕ → Result GatePolicy PolicyRefusal → Type 0
OpensGate document (Ok g) = IsGateOn Profile document g
OpensGate document (Err e) = CompilesDocument document (Err e)

-- the gate of a document in the wide language, with the message expressions that are left out
pub record IsWideGateOn (rule : MessageRule) (document : List ℕ) (g : WideGate) : Type 0 where
  pub is_said :
      IsWidePolicy rule document (record { source = g.gate.told; profile = g.gate.policy; left_out = g.left_out; wrapped = g.gate.wrapped })
  pub compiled : IsCompiled g.gate.policy g.gate.image

-- why a document of the wide language gives no image
abbrev pub IsWideRefused : MessageRule → List ℕ → WideRefusal → Type 0
IsWideRefused rule document (wide_refusal.Unread wide_error.Memory) = ⊥
IsWideRefused rule document (wide_refusal.Unread e) = WidePolicyReturns rule document (Err e)
IsWideRefused rule document (wide_refusal.Uncompiled e) =
    (told parsed : Policy) × (wrapped : Bool) × IsSaid (Wide rule) document told parsed wrapped × Compiles parsed (Err e)
IsWideRefused rule document wide_refusal.Memory = ⊥

-- the gate, or why there is none; or an allocation failed
abbrev pub OpensWideGate : MessageRule → List ℕ → Result WideGate WideRefusal → Type 0
OpensWideGate rule document (Ok g) = IsWideGateOn rule document g
OpensWideGate rule document (Err wide_refusal.Memory) = Unit {0}
OpensWideGate rule document (Err e) = IsWideRefused rule document e

-- ---- roots

-- the roots in the order of their references, from 4 on
abbrev pub values_of_roots : Roots → List Value
values_of_roots r = r.object ∷ r.old_object ∷ r.params ∷ r.namespace_object ∷ r.request ∷ []

-- the contents of the value store at the start, with these roots
abbrev pub started : Roots → Contents
started r = record { values = first_values ++ map value (values_of_roots r); charge = sizes (values_of_roots r) }

-- the roots on which a policy's program runs, for those of the documents: with a table of indices beside the params if
-- the policy's translations are wrapped
abbrev pub placed_roots : Bool → Roots → Roots
placed_roots wrapped own = placed wrapped (index_tables (table_length own)) own

-- ---- reviews

-- the documents of a policy, in this language, and of a review
pub record Documents : Type 0 where
  pub language : Language
  pub policy : List ℕ
  pub review : List ℕ
  pub namespace : Option (List ℕ)
  pub params : Option (List ℕ)

-- the contents at the start, with a review's roots, or its refusal
abbrev pub values_given : Documents → Result Contents RunError
values_given d = contents_given (Some d.review) d.namespace d.params

-- the contents at the start and the uid are those of these documents
pub record AreGiven (d : Documents) (values : Contents) (uid : List ℕ) : Type 0 where
  pub contents : values_given d ≡ Ok values
  pub uid_is : uid ≡ uid_in d.review

-- the case to decide: the policy in one document, the roots in the others, and those on which its program runs
pub record Case (d : Documents) : Type 0 where
  pub policy : IsPolicy d.language d.policy
  pub own : Roots
  pub are_given : values_given d ≡ Ok (started own)
  pub roots : Roots
  pub are_placed : roots ≡ placed_roots policy.wrapped own
  pub fit : (started roots).charge ≤ charge_limit

-- the documents' roots are too large with the table of indices that the policy needs
pub record AreTooLarge (d : Documents) : Type 0 where
  pub policy : IsPolicy d.language d.policy
  pub own : Roots
  pub are_given : values_given d ≡ Ok (started own)
  pub beyond : charge_limit < (started (placed_roots policy.wrapped own)).charge

-- the policy's decision
abbrev pub decision : {d : Documents} → Case d → Verdict
decision case = decision_of case.policy.parsed.failure_policy case.policy.trees case.roots

-- the units of work that the decision takes
abbrev pub work : {d : Documents} → Case d → ℕ
work case = policy_work case.policy.parsed.failure_policy case.policy.trees case.roots

-- the bound on the charge is above the limit, or a value is too deep
abbrev pub IsBeyond : {d : Documents} → Case d → Type 0
IsBeyond case =
    (charge_limit < (started case.roots).charge + charge_per_unit * policy_spent case.policy.parsed.failure_policy
    case.policy.trees case.roots)
    ⊎ IsDeepPolicy case.policy.parsed.failure_policy case.policy.trees case.roots

-- the reply is the one for the policy's verdict
pub record IsAnswered (d : Documents) (answer : Reply) : Type 0 where
  pub case : Case d
  pub answer_is : answer ≡ answer_of case.policy.told (decision case) (uid_in d.review)

-- the work may take more than n steps
pub record IsUnended (d : Documents) (n : ℕ) : Type 0 where
  pub case : Case d
  pub early : n < steps_per_visit * work case

-- the reads are limited
pub record IsUnread (d : Documents) (reads : ℕ) : Type 0 where
  pub case : Case d
  pub limited : reads < no_limit

-- the charge of the work may exceed the limit, or a value is too deep
pub record IsStopped (d : Documents) : Type 0 where
  pub case : Case d
  pub beyond : IsBeyond case

-- an error that a review may have: the first refusal of the policy, of the documents, or of the program's run within the
-- limits; or that an allocation failed, at any time
abbrev pub HasNoResponse : Documents → Limits → RunError → Type 0
HasNoResponse d limits (PolicyRefused e) = (d.language ≡ Profile) × IsPolicyRefused d.policy e
HasNoResponse d limits ReviewRefused = (IsPolicy d.language d.policy × (values_given d ≡ Err ReviewRefused)) ⊎ AreTooLarge d
HasNoResponse d limits NamespaceOrParamsRefused = IsPolicy d.language d.policy × (values_given d ≡ Err NamespaceOrParamsRefused)
HasNoResponse d limits OutOfSteps = IsUnended d limits.steps
HasNoResponse d limits OverLimit = IsStopped d
HasNoResponse d limits OutOfReads = IsUnread d limits.reads
HasNoResponse d limits Memory = Unit {0}

-- a reply or an error that a review may have; `RunAgrees` states when it is one of the run
abbrev pub Reviews : Documents → Limits → Result Reply RunError → Type 0
Reviews d limits (Ok answer) = IsAnswered d answer
Reviews d limits (Err e) = HasNoResponse d limits e
