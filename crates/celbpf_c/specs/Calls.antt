-- The effects of the calls on gates.
use Rattle.std.specs.Prelude.{◌≡◌, ℕ, List, [], Option, Some, None, Result, Ok, Err, Box}
use Rattle.std.specs.declared.alloc.Global.{Global}
use Rattle.policy_glue.specs.OneImage.{OneImage}
use Rattle.admission.specs.Deciding.{IsGateOn, OpensGate}
use Rattle.admission.specs.GatePolicies.{GatePolicy}
use Rattle.admission.specs.Standing.{exactly, Images}
use Rattle.admission.specs.declared.language.Language.{Language}
use Rattle.admission.specs.declared.policy_refusal.PolicyRefusal.{PolicyRefusal}
use Rattle.cli.specs.Refusals.{policy_refusal_of, refusal_line}
use Rattle.celbpf_calls.specs.Statuses.{policy_status}
use Rattle.celbpf_calls.specs.Output.{Writes}

-- the place holds a gate of the policy of this language in this document
abbrev pub Holds : Language → List ℕ → Option GatePolicy → Type 0
Holds language document None = ⊥
Holds language document (Some gate) = IsGateOn language document gate

-- the gate in a box
abbrev pub gate_view : Result (Box GatePolicy Global) PolicyRefusal → Result GatePolicy PolicyRefusal
gate_view (Ok b) = Ok b.value
gate_view (Err e) = Err e

-- the place, the status and the text after a gate was made or the policy was refused
abbrev pub LeavesGate : Result GatePolicy PolicyRefusal → Option GatePolicy → Option GatePolicy → ℕ
    → List ℕ → List ℕ → ℕ → Type 0
LeavesGate (Ok gate) old new status before after n =
    OneImage gate.policy gate.image × (new ≡ Some gate) × (status ≡ 0) × Writes [] before after n
LeavesGate (Err e) old new status before after n =
    (new ≡ old) × (status ≡ policy_status e) × Writes (refusal_line (policy_refusal_of e)) before after n

-- the place gets the gate of the policy in a document; or the document is refused, and the place is unchanged
abbrev pub MakesGate : List ℕ → Option GatePolicy → Option GatePolicy → ℕ → List ℕ → List ℕ → ℕ → Type 0
MakesGate document old new status before after n =
    (made : Result GatePolicy PolicyRefusal) × OpensGate document made × LeavesGate made old new status before after n

-- the image of the gate in a place
abbrev pub image_held : Option GatePolicy → Images
image_held (Some gate) = exactly gate.image
image_held None = λ p image. ⊥
