-- The line on each policy of a cluster that is written before the first review is read.
use Rattle.std.specs.Prelude.{ℕ, ◌&&◌, Bool, false, List, [], ◌∷◌, ◌++◌, codes, bytes_eq, decimal, filter, length, map, Option, Some, None, unwrap_or}
use Rattle.std.specs.Option.{option_map_or}
use Rattle.std.specs.List.{flat_map}
use Rattle.serde_json.specs.Data as json
use Rattle.admission_documents.specs.Documents.{field, text_of}
use Rattle.wide_policy.specs.declared.left_out.LeftOut.{LeftOut}
use Rattle.admission.specs.declared.language.Language.{Language}
use Rattle.cluster_state.specs.Items.{array_of}
use Rattle.cluster_state.specs.Policies.{BoundPolicy, ParamKind}
use Rattle.cluster_state.specs.State.{ClusterState}
use Rattle.cluster_plan.specs.Steps.{bindings_of}
use Rattle.cluster_gate.specs.Gates.{IsJudged, LeavesOutMessages}
use Rattle.cluster_gate.specs.declared.block_cause.BlockCause.{BlockCause}
use Rattle.cluster_gate.specs.declared.standing.Standing.{Standing, TheVariants.Asked, TheVariants.Blocked}
use Rattle.gatekeeper_runner.specs.Cluster.Starting.{cause_code, cause_text}
use Rattle.cli.specs.WideTexts.{wide_cause_text}

-- names, each after a space
abbrev pub spaced : List (List ℕ) → List ℕ
spaced names = flat_map (λ name. codes " " ++ name) names

-- ---- params

-- this text, and no other value
abbrev pub is_this_text : List ℕ → Option json.Data → Bool
is_this_text due value = option_map_or (λ t. bytes_eq t due) (text_of value) false

-- the object is of this kind
abbrev pub is_of_param_kind : ParamKind → json.Data → Bool
is_of_param_kind k d = is_this_text k.api_version (field (codes "apiVersion") d) && is_this_text k.kind (field (codes "kind") d)

-- the objects in a list
abbrev pub objects_in : json.Data → List json.Data
objects_in list = unwrap_or (array_of (field (codes "items") list)) []

-- the objects of this kind in lists
abbrev pub listed : ParamKind → List json.Data → List json.Data
listed k lists = flat_map (λ list. filter (is_of_param_kind k) (objects_in list)) lists

-- the kind of the policy's params, and how many of this kind are listed
abbrev pub params_text : List json.Data → Option ParamKind → List ℕ
params_text lists None = []
params_text lists (Some k) =
    codes ", params " ++ (k.api_version ++ (codes " " ++ (k.kind ++ (codes " " ++ decimal (length (listed k lists))))))

-- ---- a policy

-- why the policy is blocked, if it is
abbrev pub block_text : Option BlockCause → List ℕ
block_text None = []
block_text (Some cause) = codes ", blocked " ++ (cause_code cause ++ cause_text cause)

-- the names of the policy's bindings
abbrev pub binding_names : ClusterState → BoundPolicy → List (List ℕ)
binding_names s p = map (λ b. b.name) (bindings_of p.name s.bindings)

-- how a line on the policy of this name begins
unfoldable pub policy_front : List ℕ → List ℕ
policy_front name = codes "gatekeeper: policy " ++ name

-- its line of standard error: its name, its bindings, its kind of params, why it is blocked
abbrev pub policy_line : List json.Data → ClusterState → BoundPolicy → Option BlockCause → List ℕ
policy_line lists s p cause =
    policy_front p.name ++ (codes ", bindings" ++ (spaced (binding_names s p)
    ++ (params_text lists p.param_kind ++ (block_text cause ++ 10 ∷ []))))

-- the line on a message expression that is left out: the policy, the place of the validation, counted from 0, and why
abbrev pub note_line : List ℕ → LeftOut → List ℕ
note_line name note =
    policy_front name ++ (codes ", left out message " ++ (decimal note.validation
    ++ (codes " " ++ (wide_cause_text note.cause ++ 10 ∷ []))))

abbrev pub note_lines : List ℕ → List LeftOut → List ℕ
note_lines name notes = flat_map (note_line name) notes

-- the lines of policies that are read in this language, each with those on what is left out of it
pub data TellsPolicies (l : Language) (lists : List json.Data) (s : ClusterState) : List BoundPolicy → List ℕ → Type 0 where
  none : TellsPolicies l lists s [] []
  next : {policies : List BoundPolicy} {text : List ℕ} (p : BoundPolicy) (cause : Option BlockCause) (notes : List LeftOut)
      → TellsPolicies l lists s policies text → IsJudged l s p cause → LeavesOutMessages l p notes
      → TellsPolicies l lists s (policies ++ p ∷ []) (text ++ (policy_line lists s p cause ++ note_lines p.name notes))

-- ---- the code's

-- why a policy of this standing is blocked
abbrev pub cause_of : Standing → Option BlockCause
cause_of (Asked gate) = None
cause_of (Blocked cause) = Some cause
