-- The effects of the calls that make gates of policies as clusters store them, as the program `gatekeeper` does.
use Rattle.std.specs.Prelude.{◌≡◌, ℕ, List, [], Option, Some, Result, Ok, Err, Box}
use Rattle.std.specs.declared.alloc.Global.{Global}
use Rattle.admission.specs.GatePolicies.{GatePolicy}
use Rattle.admission.specs.declared.wide_refusal.WideRefusal.{WideRefusal}
use Rattle.celbpf_calls.specs.Output.{Writes, WritesWideRefusal}
use Rattle.celbpf_calls.specs.WideCalls.{OpensStored}

-- the gate in a box
abbrev pub wide_gate_view : Result (Box GatePolicy Global) WideRefusal → Result GatePolicy WideRefusal
wide_gate_view (Ok b) = Ok b.value
wide_gate_view (Err e) = Err e

-- the place, the status and the text after a gate was made or the policy was refused
abbrev pub LeavesWideGate : Result GatePolicy WideRefusal → Option GatePolicy → Option GatePolicy → ℕ → List ℕ → List ℕ → ℕ → Type 0
LeavesWideGate (Ok gate) old new status before after n = (new ≡ Some gate) × (status ≡ 0) × Writes [] before after n
LeavesWideGate (Err e) old new status before after n = (new ≡ old) × WritesWideRefusal e status before after n

-- the place gets the gate of the policy in a document; or the document is refused, and the place is unchanged
abbrev pub MakesWideGate : List ℕ → Option GatePolicy → Option GatePolicy → ℕ → List ℕ → List ℕ → ℕ → Type 0
MakesWideGate document old new status before after n =
    (made : Result GatePolicy WideRefusal) × OpensStored document made × LeavesWideGate made old new status before after n
