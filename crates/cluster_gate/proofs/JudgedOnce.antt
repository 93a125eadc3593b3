-- A policy is blocked in one way.
use Rattle.cluster_gate.proofs.Prelude.{◌≡◌, ◌∙◌, ℕ, List, Bool, true, false, Option, Some, None, Result, Ok, Err, ap, option_map, refl, subst, sym, BoundPolicy, ClusterState, IsJudged, block_of}
use Rattle.policy_glue.specs.Limits.{Compiles}
use Rattle.policy_glue.specs.Naming.{conditions_name_namespace}
use Rattle.policy_glue.specs.OneAnswer.{CompileHasOneResult}
use Rattle.policy_glue.specs.Policy.{Policy}
use Rattle.value_store.specs.Documents.{document_of}
use Rattle.policy_glue.specs.Trees.{PolicyTree}
use Rattle.policy_glue.specs.declared.compile_error.CompileError.{CompileError}
use Rattle.wide_policy.proofs.Once.{not_refused}
use Rattle.wide_policy.specs.declared.message_rule.MessageRule.{MessageRule}
use Rattle.wide_policy.specs.declared.wide_policy_error.WidePolicyError.TheVariants as wide_error
use Rattle.admission.proofs.Said.{said_once}
use Rattle.admission.specs.Deciding.{IsSaid, IsWideRefused}
use Rattle.admission.specs.declared.policy_refusal.PolicyRefusal.{TheVariants.Unread, TheVariants.Uncompiled}
use Rattle.admission.specs.declared.wide_refusal.WideRefusal.{WideRefusal}
use Rattle.admission.specs.declared.wide_refusal.WideRefusal.TheVariants as wide_refusal
use Rattle.admission.specs.declared.policy_refusal.PolicyRefusal.TheVariants as policy_refusal
use Rattle.cluster_gate.proofs.SameReading.{same_policy, same_text, said_moved, compiled_shallow}
use Rattle.cluster_gate.specs.Gates.{IsCompiledPolicy, IsRefusedPolicy, IsRefusedText}
use Rattle.cluster_gate.specs.Laws.{IsShallow}
use Rattle.cluster_gate.specs.CompiledDocuments.{compiled_document}
use Rattle.cluster_gate.specs.Texts.{IsJsonTextOf}
use Rattle.cluster_gate.specs.declared.block_cause.BlockCause.{BlockCause}
use Rattle.cluster_gate.specs.declared.block_cause.BlockCause.TheVariants.{Refused, RefusedWide, NamesNamespace, UnknownParamKind}
use Rattle.admission.specs.declared.language.Language.{Language, TheVariants.Profile, TheVariants.Wide}

-- The policies are read in this language.
module _ (language : Language) where
  module _ (compiles_once : CompileHasOneResult) where
    trees_once : (p q : Policy) (t u : PolicyTree) → p ≡ q → Compiles p (Ok t) → Compiles q (Ok u) → t ≡ u
    trees_once p q t u same a b =
        let both : ◌≡◌ {A = Result PolicyTree CompileError} (Ok t) (Ok u) = compiles_once q (Ok t) (Ok u) (subst (λ (x : Policy). Compiles x (Ok t)) same a) b in cc

    not_both : (p q : Policy) (t : PolicyTree) (e : CompileError) → p ≡ q → Compiles p (Ok t) → Compiles q (Err e) → ⊥
    not_both p q t e same a b =
        let both : ◌≡◌ {A = Result PolicyTree CompileError} (Ok t) (Err e) = compiles_once q (Ok t) (Err e) (subst (λ (x : Policy). Compiles x (Ok t)) same a) b in absurd (cc)

    wide_refused : (rule : MessageRule) (text : List ℕ) (told parsed : Policy) (wrapped : Bool) (trees : PolicyTree) (e : WideRefusal) → IsSaid (Wide rule) text told parsed wrapped
        → Compiles parsed (Ok trees) → IsWideRefused rule text e → ⊥
    wide_refused rule text told parsed wrapped trees (wide_refusal.Unread (wide_error.Unread x)) said compiles is = not_refused rule text _ (wide_error.Unread x) (λ g. cc) said.1 is
    wide_refused rule text told parsed wrapped trees (wide_refusal.Unread wide_error.HasAuditAnnotations) said compiles is =
        not_refused rule text _ wide_error.HasAuditAnnotations (λ g. cc) said.1 is
    wide_refused rule text told parsed wrapped trees (wide_refusal.Unread (wide_error.InvalidExpression k n x)) said compiles is =
        not_refused rule text _ (wide_error.InvalidExpression k n x) (λ g. cc) said.1 is
    wide_refused rule text told parsed wrapped trees (wide_refusal.Unread wide_error.Memory) said compiles is = is
    wide_refused rule text told parsed wrapped trees (wide_refusal.Uncompiled x) said compiles (other, also, as_well, is, unfit) =
        not_both parsed also trees x (said_once (Wide rule) text told parsed other also wrapped as_well said is).parsed_is compiles unfit
    wide_refused rule text told parsed wrapped trees wide_refusal.Memory said compiles is = is

    -- a text of a policy that compiles is not refused
    refused_by : (l : Language) (text other : List ℕ) (told parsed : Policy) (wrapped : Bool) (trees : PolicyTree) (cause : BlockCause) → document_of text ≡ document_of other
        → IsSaid l text told parsed wrapped → Compiles parsed (Ok trees) → IsRefusedText l other cause → ⊥
    refused_by Profile text other told parsed wrapped trees (Refused (Unread e)) same said compiles is =
        let both = sym said.0 ∙ same_policy text other same ∙ is in absurd (cc)
    refused_by Profile text other told parsed wrapped trees (Refused (Uncompiled e)) same said compiles (q, is, unfit) =
        let alike : parsed ≡ q = (let both = sym said.0 ∙ same_policy text other same ∙ is in cc) in
        not_both parsed q trees e alike compiles unfit
    refused_by Profile text other told parsed wrapped trees (Refused policy_refusal.Memory) same said compiles is = is
    refused_by Profile text other told parsed wrapped trees (RefusedWide e) same said compiles is = is
    refused_by Profile text other told parsed wrapped trees NamesNamespace same said compiles is = is
    refused_by Profile text other told parsed wrapped trees UnknownParamKind same said compiles is = is
    refused_by (Wide rule) text other told parsed wrapped trees (RefusedWide e) same said compiles is =
        wide_refused rule other told parsed wrapped trees e (said_moved (Wide rule) text other told parsed wrapped same said) compiles is
    refused_by (Wide rule) text other told parsed wrapped trees (Refused e) same said compiles is = is
    refused_by (Wide rule) text other told parsed wrapped trees NamesNamespace same said compiles is = is
    refused_by (Wide rule) text other told parsed wrapped trees UnknownParamKind same said compiles is = is

    module _ (p : BoundPolicy) (shallow : IsShallow p.document) where
      pub one_reading : (t u : List ℕ) → IsJsonTextOf (compiled_document p.document) t → IsJsonTextOf (compiled_document p.document) u → document_of t ≡ document_of u
      one_reading t u a b = same_text (compiled_document p.document) t u (compiled_shallow p.document shallow) a b

      -- a policy names the namespace in its conditions or not
      naming_once : (x y : Bool) → IsCompiledPolicy language p x → IsCompiledPolicy language p y → x ≡ y
      naming_once x y a b =
          let reads = one_reading b.text a.text b.has_text a.has_text in
          let moved = said_moved language b.text a.text b.is_policy.told b.is_policy.parsed b.is_policy.wrapped reads b.is_policy.is_said in
          let same = (said_once language a.text a.is_policy.told a.is_policy.parsed b.is_policy.told b.is_policy.parsed a.is_policy.wrapped b.is_policy.wrapped a.is_policy.is_said moved).parsed_is in
          let trees = trees_once a.is_policy.parsed b.is_policy.parsed a.is_policy.trees b.is_policy.trees same a.is_policy.compiles b.is_policy.compiles in
          sym a.naming ∙ (ap conditions_name_namespace trees ∙ b.naming)

      -- a policy that is compiled is not refused
      pub compiled_or_refused : (x : Bool) (cause : BlockCause) → IsCompiledPolicy language p x → IsRefusedPolicy language p cause → ⊥
      compiled_or_refused x cause a b =
          refused_by language a.text b.text a.is_policy.told a.is_policy.parsed a.is_policy.wrapped a.is_policy.trees cause (one_reading a.text b.text a.has_text b.has_text) a.is_policy.is_said a.is_policy.compiles b.refused

      -- nothing blocks a policy, or this, as its steps show it
      pub judged_once : (s : ClusterState) (c d : Option BlockCause) → IsJudged language s p c → IsJudged language s p d → option_map block_of c ≡ option_map block_of d
      judged_once s None None a b = refl
      judged_once s None (Some (Refused e)) a b = absurd (compiled_or_refused false (Refused e) a.0 b)
      judged_once s None (Some (RefusedWide e)) a b = absurd (compiled_or_refused false (RefusedWide e) a.0 b)
      judged_once s None (Some NamesNamespace) a b = let both = naming_once false true a.0 b in absurd (cc)
      judged_once s None (Some UnknownParamKind) a b = let both = sym a.1 ∙ b.1 in absurd (cc)
      judged_once s (Some (Refused e)) None a b = absurd (compiled_or_refused false (Refused e) b.0 a)
      judged_once s (Some (Refused e)) (Some (Refused f)) a b = refl
      judged_once s (Some (Refused e)) (Some (RefusedWide f)) a b = refl
      judged_once s (Some (Refused e)) (Some NamesNamespace) a b = refl
      judged_once s (Some (Refused e)) (Some UnknownParamKind) a b = absurd (compiled_or_refused false (Refused e) b.0 a)
      judged_once s (Some (RefusedWide e)) None a b = absurd (compiled_or_refused false (RefusedWide e) b.0 a)
      judged_once s (Some (RefusedWide e)) (Some (Refused f)) a b = refl
      judged_once s (Some (RefusedWide e)) (Some (RefusedWide f)) a b = refl
      judged_once s (Some (RefusedWide e)) (Some NamesNamespace) a b = refl
      judged_once s (Some (RefusedWide e)) (Some UnknownParamKind) a b = absurd (compiled_or_refused false (RefusedWide e) b.0 a)
      judged_once s (Some NamesNamespace) None a b = let both = naming_once false true b.0 a in absurd (cc)
      judged_once s (Some NamesNamespace) (Some (Refused f)) a b = refl
      judged_once s (Some NamesNamespace) (Some (RefusedWide f)) a b = refl
      judged_once s (Some NamesNamespace) (Some NamesNamespace) a b = refl
      judged_once s (Some NamesNamespace) (Some UnknownParamKind) a b = let both = naming_once false true b.0 a in absurd (cc)
      judged_once s (Some UnknownParamKind) None a b = let both = sym b.1 ∙ a.1 in absurd (cc)
      judged_once s (Some UnknownParamKind) (Some (Refused f)) a b = absurd (compiled_or_refused false (Refused f) a.0 b)
      judged_once s (Some UnknownParamKind) (Some (RefusedWide f)) a b = absurd (compiled_or_refused false (RefusedWide f) a.0 b)
      judged_once s (Some UnknownParamKind) (Some NamesNamespace) a b = let both = naming_once false true a.0 b in absurd (cc)
      judged_once s (Some UnknownParamKind) (Some UnknownParamKind) a b = refl
