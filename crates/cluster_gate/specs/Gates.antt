-- The bound policies of a cluster before the first request: compiled, or blocked.
use Rattle.std.specs.Prelude.{◌≡◌, ℕ, ◌&&◌, Bool, true, false, List, [], ◌∷◌, ◌++◌, Option, Some, None, Result, Ok, Err, Vec, string_bytes, is_none, is_some, option_and_then}
use Rattle.std.specs.declared.alloc.Global.{Global}
use Rattle.policy_glue.specs.Naming.{conditions_name_namespace}
use Rattle.policy_glue.specs.OneImage.{OneImage}
use Rattle.policy_glue.specs.Policy.{Policy}
use Rattle.wide_policy.specs.Reading.{IsWidePolicy}
use Rattle.wide_policy.specs.declared.left_out.LeftOut.{LeftOut}
use Rattle.wide_policy.specs.declared.message_rule.MessageRule.{MessageRule}
use Rattle.admission.specs.Deciding.{IsGateOn, IsPolicy, IsPolicyRefused, IsWideRefused}
use Rattle.admission.specs.GatePolicies.{GatePolicy}
use Rattle.admission.specs.declared.language.Language.{Language, TheVariants.Profile, TheVariants.Wide}
use Rattle.admission.specs.declared.policy_refusal.PolicyRefusal.{PolicyRefusal}
use Rattle.admission.specs.declared.wide_refusal.WideRefusal.{WideRefusal}
use Rattle.cluster_state.specs.Params.{KnownKind, known_kind}
use Rattle.cluster_state.specs.Policies.{BoundPolicy}
use Rattle.cluster_state.specs.State.{ClusterState, state_view}
use Rattle.cluster_plan.specs.Steps.{AskedPolicy, PolicyBlock, asked_view, policy_refused, unknown_kind}
use Rattle.cluster_gate.specs.CompiledDocuments.{compiled_document}
use Rattle.cluster_gate.specs.Texts.{IsJsonTextOf}
use Rattle.cluster_gate.specs.declared.block_cause.BlockCause.{BlockCause}
use Rattle.cluster_gate.specs.declared.block_cause.BlockCause.TheVariants.{Refused, RefusedWide, NamesNamespace, UnknownParamKind}
use Rattle.cluster_gate.specs.declared.cluster.Cluster.{Cluster}
use Rattle.cluster_gate.specs.declared.cluster_error.ClusterError.{ClusterError}
use Rattle.cluster_gate.specs.declared.cluster_error.ClusterError.TheVariants.{BlockedPolicy, Memory}
use Rattle.cluster_gate.specs.declared.policy_gate.PolicyGate.{PolicyGate}
use Rattle.cluster_gate.specs.declared.standing.Standing.{Standing}
use Rattle.cluster_gate.specs.declared.standing.Standing.TheVariants.{Asked, Blocked}

-- ---- kinds of params

-- the kind of the policy's params, if it has one and params of it can be found
abbrev pub kind_of : ClusterState → BoundPolicy → Option KnownKind
kind_of s p = option_and_then (λ k. known_kind k s.items s.objects) p.param_kind

-- the policy has a kind of params that cannot be found
abbrev pub lacks_kind : ClusterState → BoundPolicy → Bool
lacks_kind s p = is_some p.param_kind && is_none (kind_of s p)

abbrev pub asked_policy : ClusterState → BoundPolicy → AskedPolicy
asked_policy s p = record { policy = p; kind = kind_of s p }

-- ---- what blocks a policy

abbrev pub block_of : BlockCause → PolicyBlock
block_of (Refused e) = policy_refused
block_of (RefusedWide e) = policy_refused
block_of NamesNamespace = policy_refused
block_of UnknownParamKind = unknown_kind

-- why a text gives no image
abbrev pub IsRefusedText : Language → List ℕ → BlockCause → Type 0
IsRefusedText Profile text (Refused e) = IsPolicyRefused text e
IsRefusedText (Wide rule) text (RefusedWide e) = IsWideRefused rule text e
IsRefusedText _ text _ = ⊥

-- The policies are read in this language.
module _ (l : Language) where
  -- the policy is compiled, and whether its match conditions name the namespace
  pub record IsCompiledPolicy (p : BoundPolicy) (names : Bool) : Type 0 where
    pub text : List ℕ
    pub has_text : IsJsonTextOf (compiled_document p.document) text
    pub is_policy : IsPolicy l text
    pub naming : conditions_name_namespace is_policy.trees ≡ names

  -- the policy is refused
  pub record IsRefusedPolicy (p : BoundPolicy) (cause : BlockCause) : Type 0 where
    pub text : List ℕ
    pub has_text : IsJsonTextOf (compiled_document p.document) text
    pub refused : IsRefusedText l text cause

  -- why a policy is blocked, the first of these: it is refused; a match condition names `namespaceObject`, which is null
  -- there in an API server; params of its kind cannot be found
  abbrev pub IsBlockedBy : ClusterState → BoundPolicy → BlockCause → Type 0
  IsBlockedBy s p (Refused e) = IsRefusedPolicy p (Refused e)
  IsBlockedBy s p (RefusedWide e) = IsRefusedPolicy p (RefusedWide e)
  IsBlockedBy s p NamesNamespace = IsCompiledPolicy p true
  IsBlockedBy s p UnknownParamKind = IsCompiledPolicy p false × (lacks_kind s p ≡ true)

  -- what blocks a policy, if anything does
  abbrev pub IsJudged : ClusterState → BoundPolicy → Option BlockCause → Type 0
  IsJudged s p None = IsCompiledPolicy p false × (lacks_kind s p ≡ false)
  IsJudged s p (Some cause) = IsBlockedBy s p cause

  -- no policy is blocked
  abbrev pub NoneIsBlocked : ClusterState → List BoundPolicy → Type 0
  NoneIsBlocked s [] = Unit {0}
  NoneIsBlocked s (p ∷ ps) = IsJudged s p None × NoneIsBlocked s ps

  -- the first blocked policy has this name and this cause
  pub record FirstIsBlocked (s : ClusterState) (policies : List BoundPolicy) (name : List ℕ) (cause : BlockCause) : Type 0 where
    pub before : List BoundPolicy
    pub policy : BoundPolicy
    pub after : List BoundPolicy
    pub are : policies ≡ before ++ policy ∷ after
    pub none : NoneIsBlocked s before
    pub blocked : IsBlockedBy s policy cause
    pub name_is : name ≡ policy.name

  -- ---- the code's

  -- the gate is of the policy, whose match conditions may name the namespace
  pub record IsGateOfText (p : BoundPolicy) (gate : GatePolicy) : Type 0 where
    pub text : List ℕ
    pub has_text : IsJsonTextOf (compiled_document p.document) text
    pub of_policy : IsGateOn l text gate
    pub image : OneImage gate.policy gate.image

  -- the gate by which the policy is asked
  pub record IsAskedGate (p : BoundPolicy) (gate : GatePolicy) : Type 0 where
    pub gate_of : IsGateOfText p gate
    pub naming : conditions_name_namespace gate_of.of_policy.1.trees ≡ false

  -- a policy has this gate, or is blocked by this cause
  abbrev pub StandsAs : ClusterState → BoundPolicy → Standing → Type 0
  StandsAs s p (Asked gate) = IsAskedGate p gate × (lacks_kind s p ≡ false)
  StandsAs s p (Blocked cause) = IsBlockedBy s p cause

  -- so it is in each state that has a kind of its params, or lacks it
  abbrev pub StandsIf : BoundPolicy → Bool → Standing → Type 0
  StandsIf p lacks t = (s : ClusterState) → lacks_kind s p ≡ lacks → StandsAs s p t

  -- the message expressions that are left out of a policy: those that its reading leaves out; none if it is refused
  pub data LeavesOutMessages (p : BoundPolicy) : List LeftOut → Type 0 where
    in_profile : l ≡ Profile → LeavesOutMessages p []
    refused : {rule : MessageRule} {text : List ℕ} (e : WideRefusal) → l ≡ Wide rule → IsJsonTextOf (compiled_document p.document) text
        → IsWideRefused rule text e → LeavesOutMessages p []
    notes : {rule : MessageRule} {text : List ℕ} (told parsed : Policy) (wrapped : Bool) (left_out : Vec LeftOut Global) → l ≡ Wide rule
        → IsJsonTextOf (compiled_document p.document) text
        → IsWidePolicy rule text (record { source = told; profile = parsed; left_out = left_out; wrapped = wrapped })
        → LeavesOutMessages p left_out.items

  -- a policy that is opened, and what is left out of it
  pub record HasOpened (p : BoundPolicy) (lacks : Bool) (t : Standing) (notes : List LeftOut) : Type 0 where
    pub stands : StandsIf p lacks t
    pub leaves : LeavesOutMessages p notes

  -- the code's gate is of this policy
  pub record IsGateFor (s : ClusterState) (p : BoundPolicy) (g : PolicyGate) : Type 0 where
    pub asked : asked_view g.asked ≡ asked_policy s p
    pub stands : StandsAs s p g.standing
    pub leaves : LeavesOutMessages p g.left_out.items

  -- the gate of a policy, which may be blocked only if that is allowed, or what blocks it; or an allocation failed
  abbrev pub OpensGateFor : ClusterState → Bool → BoundPolicy → Result PolicyGate ClusterError → Type 0
  OpensGateFor s partial p (Ok g) = IsGateFor s p g × (partial ≡ false → IsJudged s p None)
  OpensGateFor s partial p (Err (BlockedPolicy name cause)) = (partial ≡ false) × IsBlockedBy s p cause × (string_bytes name ≡ p.name)
  OpensGateFor s partial p (Err Memory) = Unit {0}

  -- the code's gates are of these policies
  abbrev pub AreGatesFor : ClusterState → List BoundPolicy → List PolicyGate → Type 0
  AreGatesFor s [] [] = Unit {0}
  AreGatesFor s [] (g ∷ gs) = ⊥
  AreGatesFor s (p ∷ ps) [] = ⊥
  AreGatesFor s (p ∷ ps) (g ∷ gs) = IsGateFor s p g × AreGatesFor s ps gs

  -- the code's cluster has this state
  pub record IsClusterFor (s : ClusterState) (c : Cluster) : Type 0 where
    pub state : state_view c.state.now ≡ s
    pub gates : AreGatesFor s s.policies c.gates.items

  -- the gates of policies, of which none is blocked unless that is allowed, or the first that is; or an allocation failed
  abbrev pub GatesOpen : ClusterState → Bool → List BoundPolicy → Result (Vec PolicyGate Global) ClusterError → Type 0
  GatesOpen s partial ps (Ok gates) = AreGatesFor s ps gates.items × (partial ≡ false → NoneIsBlocked s ps)
  GatesOpen s partial ps (Err (BlockedPolicy name cause)) = (partial ≡ false) × FirstIsBlocked s ps (string_bytes name) cause
  GatesOpen s partial ps (Err Memory) = Unit {0}

  -- the cluster that opens from this state
  abbrev pub ClusterOpens : ClusterState → Bool → Result Cluster ClusterError → Type 0
  ClusterOpens s partial (Ok c) = IsClusterFor s c × (partial ≡ false → NoneIsBlocked s s.policies)
  ClusterOpens s partial (Err (BlockedPolicy name cause)) = (partial ≡ false) × FirstIsBlocked s s.policies (string_bytes name) cause
  ClusterOpens s partial (Err Memory) = Unit {0}
