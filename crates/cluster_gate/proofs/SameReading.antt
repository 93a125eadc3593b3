-- Documents whose texts are read as the same values decide alike.
use Rattle.cluster_gate.proofs.Prelude.{◌≡◌, ◌∙◌, ◌≤◌, ℕ, Bool, true, false, List, Option, Some, None, Result, Ok, Err, ap, arith, refl, subst, sym}
use Rattle.std.proofs.Common.{inl, inr}
use Rattle.std.specs.Option.{option_map_or}
use Rattle.serde_json.specs.Data as json
use Rattle.value_store.specs.Documents.{document_given, document_of}
use Rattle.value_store.specs.Reviews.{parts_given}
use Rattle.policy_glue.specs.Findings.{PolicyFinding}
use Rattle.policy_glue.specs.Policy.{Policy}
use Rattle.policy_glue.specs.Reading.{policy_in, policy_of}
use Rattle.policy_glue.specs.declared.policy_error.PolicyError.{TheVariants.NotJson}
use Rattle.wide_policy.specs.Reading.{IsWidePolicy}
use Rattle.wide_policy.specs.WideDocuments.{wide_policy_in, wide_policy_of}
use Rattle.wide_policy.specs.declared.message_rule.MessageRule.{MessageRule}
use Rattle.wide_policy.specs.declared.policy.WidePolicy.{WidePolicy}
use Rattle.wide_policy.specs.declared.wide_policy_error.WidePolicyError.TheVariants as wide_error
use Rattle.admission.specs.Deciding.{AreTooLarge, Case, Documents, HasNoResponse, IsPolicy, IsPolicyRefused, IsSaid, IsWideRefused, values_given}
use Rattle.admission.specs.Findings.{FindsReview}
use Rattle.admission.specs.Reviews.{contents_from, contents_given, documents_from, documents_given}
use Rattle.admission.specs.Standing.{RunEnding, Images, RunAgrees, PolicyRunEnds}
use Rattle.admission.specs.declared.language.Language.{Language, TheVariants.Profile, TheVariants.Wide}
use Rattle.admission.specs.declared.limits.Limits.{Limits}
use Rattle.admission.specs.declared.wide_refusal.WideRefusal.{WideRefusal}
use Rattle.admission.specs.declared.wide_refusal.WideRefusal.TheVariants as wide_refusal
use Rattle.admission.specs.declared.policy_refusal.PolicyRefusal.{PolicyRefusal, TheVariants.Unread, TheVariants.Uncompiled}
use Rattle.admission.specs.declared.policy_refusal.PolicyRefusal.TheVariants as policy_refusal
use Rattle.admission.specs.declared.run_error.RunError.{RunError, TheVariants.PolicyRefused, TheVariants.ReviewRefused, TheVariants.NamespaceOrParamsRefused, TheVariants.OutOfSteps, TheVariants.OverLimit, TheVariants.OutOfReads, TheVariants.Memory}
use Rattle.policy_glue.specs.Verdict.{Verdict}
use Rattle.cluster_gate.proofs.Compiled.{compiled_depth}
use Rattle.cluster_gate.specs.Laws.{IsShallow}
use Rattle.cluster_gate.specs.CompiledDocuments.{compiled_document}
use Rattle.cluster_gate.specs.Texts.{IsJsonTextIf, IsJsonTextOf}

-- ---- texts

-- two texts of one value are read as the same document
pub same_text : (d : json.Data) (t u : List ℕ) → IsShallow d → IsJsonTextOf d t → IsJsonTextOf d u → document_of t ≡ document_of u
same_text d t u shallow a b = a.reads shallow ∙ sym (b.reads shallow)

-- a value that may be absent is nested no deeper than texts that are read
abbrev pub IsShallowIf : Option json.Data → Type 0
IsShallowIf None = Unit {0}
IsShallowIf (Some d) = IsShallow d

pub same_text_if : (o : Option json.Data) (t u : Option (List ℕ)) → IsShallowIf o → IsJsonTextIf o t → IsJsonTextIf o u → document_given t ≡ document_given u
same_text_if None None None shallow a b = refl
same_text_if None None (Some u) shallow a b = absurd b
same_text_if None (Some t) u shallow a b = absurd a
same_text_if (Some d) None u shallow a b = absurd a
same_text_if (Some d) (Some t) None shallow a b = absurd b
same_text_if (Some d) (Some t) (Some u) shallow a b = same_text d t u shallow a b

pub same_policy : (t u : List ℕ) → document_of t ≡ document_of u → policy_in t ≡ policy_in u
unfolding policy_in
same_policy t u is = ap (λ o. option_map_or policy_of o (Err NotJson)) is

pub same_wide : (t u : List ℕ) → document_of t ≡ document_of u → wide_policy_in t ≡ wide_policy_in u
unfolding wide_policy_in
same_wide t u is = ap (λ o. option_map_or wide_policy_of o (Err (wide_error.Unread NotJson))) is

wide_moved : (rule : MessageRule) (t u : List ℕ) (p : WidePolicy) → document_of t ≡ document_of u → IsWidePolicy rule t p → IsWidePolicy rule u p
wide_moved rule t u p same is = record {
  parsed = is.parsed;
  is_said = sym (same_wide t u same) ∙ is.is_said;
  parts = is.parts;
  taken = is.taken;
  source = is.source;
  profile = is.profile;
  left_out = is.left_out;
}

-- a policy of one text is one of the other, in each language
pub said_moved : (l : Language) (t u : List ℕ) (told parsed : Policy) (wrapped : Bool) → document_of t ≡ document_of u → IsSaid l t told parsed wrapped
    → IsSaid l u told parsed wrapped
said_moved Profile t u told parsed wrapped same is = (sym (same_policy t u same) ∙ is.0, is.1, is.2)
said_moved (Wide rule) t u told parsed wrapped same is = (is.0, wide_moved rule t u _ same is.1)

pub same_contents : (r s : List ℕ) (n m p q : Option (List ℕ)) → r ≡ s → document_given n ≡ document_given m → document_given p ≡ document_given q
    → contents_given (Some r) n p ≡ contents_given (Some s) m q
unfolding contents_given documents_given
same_contents r s n m p q review namespace params =
    ap (λ (x : List ℕ). contents_from (documents_from (parts_given (Some x)) (document_given n) (document_given p))) review
    ∙ ap (λ (x : Option json.Data). contents_from (documents_from (parts_given (Some s)) x (document_given p))) namespace
    ∙ ap (λ (x : Option json.Data). contents_from (documents_from (parts_given (Some s)) (document_given m) x)) params

-- the document of a policy is nested no deeper as it is compiled
pub compiled_shallow : (d : json.Data) → IsShallow d → IsShallow (compiled_document d)
compiled_shallow d shallow = let fewer = compiled_depth d in omega arith

-- ---- documents

-- the documents are read as the same
pub record SameReading (d e : Documents) : Type 0 where
  pub language : d.language ≡ e.language
  pub policy : document_of d.policy ≡ document_of e.policy
  pub values : values_given d ≡ values_given e

-- a refusal of one text is one of the other
pub refused_moved : (t u : List ℕ) → policy_in t ≡ policy_in u → (r : PolicyRefusal) → IsPolicyRefused t r → IsPolicyRefused u r
refused_moved t u same (Unread x) is = sym same ∙ is
refused_moved t u same (Uncompiled x) (p, is, compiles) = (p, sym same ∙ is, compiles)
refused_moved t u same policy_refusal.Memory is = is

pub wide_refused_moved : (rule : MessageRule) (t u : List ℕ) → document_of t ≡ document_of u → (r : WideRefusal) → IsWideRefused rule t r → IsWideRefused rule u r
wide_refused_moved rule t u same (wide_refusal.Unread (wide_error.Unread x)) is = sym (same_wide t u same) ∙ is
wide_refused_moved rule t u same (wide_refusal.Unread wide_error.HasAuditAnnotations) is = sym (same_wide t u same) ∙ is
wide_refused_moved rule t u same (wide_refusal.Unread (wide_error.InvalidExpression k n x)) is =
    record { parsed = is.parsed; is_said = sym (same_wide t u same) ∙ is.is_said; end = is.end; unmended = is.unmended }
wide_refused_moved rule t u same (wide_refusal.Unread wide_error.Memory) is = is
wide_refused_moved rule t u same (wide_refusal.Uncompiled x) (told, parsed, wrapped, said, compiles) = (told, parsed, wrapped, said_moved (Wide rule) t u told parsed wrapped same said, compiles)
wide_refused_moved rule t u same wide_refusal.Memory is = is

module _ (d e : Documents) (same : SameReading d e) where
  said_here : (told parsed : Policy) (wrapped : Bool) → IsSaid d.language d.policy told parsed wrapped → IsSaid e.language e.policy told parsed wrapped
  said_here told parsed wrapped is =
      subst (λ (l : Language). IsSaid l e.policy told parsed wrapped) same.language (said_moved d.language d.policy e.policy told parsed wrapped same.policy is)

  abbrev policy_moved : IsPolicy d.language d.policy → IsPolicy e.language e.policy
  policy_moved p = record {
    told = p.told;
    parsed = p.parsed;
    wrapped = p.wrapped;
    is_said = said_here p.told p.parsed p.wrapped p.is_said;
    trees = p.trees;
    compiles = p.compiles;
  }

  case_moved : Case d → Case e
  case_moved c = record {
    policy = policy_moved c.policy;
    own = c.own;
    are_given = sym same.values ∙ c.are_given;
    roots = c.roots;
    are_placed = c.are_placed;
    fit = c.fit;
  }

  too_large_moved : AreTooLarge d → AreTooLarge e
  too_large_moved large =
      record { policy = policy_moved large.policy; own = large.own; are_given = sym same.values ∙ large.are_given; beyond = large.beyond }

  -- if one has no response for this reason, neither has the other
  pub no_response_moved : (limits : Limits) (x : RunError) → HasNoResponse d limits x → HasNoResponse e limits x
  unfolding case_moved
  no_response_moved limits (PolicyRefused r) is = (sym same.language ∙ is.0, refused_moved d.policy e.policy (same_policy d.policy e.policy same.policy) r is.1)
  no_response_moved limits ReviewRefused (inl is) = inl (policy_moved is.0, sym same.values ∙ is.1)
  no_response_moved limits ReviewRefused (inr is) = inr (too_large_moved is)
  no_response_moved limits NamespaceOrParamsRefused is = (policy_moved is.0, sym same.values ∙ is.1)
  no_response_moved limits OutOfSteps is = record { case = case_moved is.case; early = is.early }
  no_response_moved limits OverLimit is = record { case = case_moved is.case; beyond = is.beyond }
  no_response_moved limits OutOfReads is = record { case = case_moved is.case; limited = is.limited }
  no_response_moved limits Memory is = is

  -- both have the same findings
  pub findings_moved : (limits : Limits) (r : Result (List PolicyFinding) RunError) → FindsReview d limits r → FindsReview e limits r
  unfolding case_moved
  findings_moved limits (Ok found) is = record { case = case_moved is.case; findings_are = is.findings_are }
  findings_moved limits (Err x) is = no_response_moved limits x is

  ends_moved : (chosen : Images) (limits : Limits) (due : Verdict → RunEnding) → PolicyRunEnds chosen d limits due → PolicyRunEnds chosen e limits due
  unfolding case_moved
  ends_moved chosen limits due is = record {
    run = record { case = case_moved is.run.case; image = is.run.image; program = is.run.program };
    is_chosen = is.is_chosen;
    ends = is.ends;
  }

  -- the program's run agrees with the same result for both
  pub runs_moved : {A : Type 0} (chosen : Images) (limits : Limits) (r : Result A RunError) → RunAgrees chosen d limits r → RunAgrees chosen e limits r
  runs_moved chosen limits (Ok a) is = ends_moved chosen limits _ is
  runs_moved chosen limits (Err (PolicyRefused x)) is = is
  runs_moved chosen limits (Err ReviewRefused) is = is
  runs_moved chosen limits (Err NamespaceOrParamsRefused) is = is
  runs_moved chosen limits (Err OutOfSteps) is = ends_moved chosen limits _ is
  runs_moved chosen limits (Err OverLimit) is = ends_moved chosen limits _ is
  runs_moved chosen limits (Err OutOfReads) is = ends_moved chosen limits _ is
  runs_moved chosen limits (Err Memory) is = is
