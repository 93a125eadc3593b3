-- The first state of the run of a policy's program.
use Rattle.std.specs.Prelude.{◌≡◌, ◌<◌, ◌≤◌, true, Result, Ok, Err}
use Rattle.value_store.specs.Placing.{Contents, charge_limit}
use Rattle.value_table.specs.Held.{Held, held_contents}
use Rattle.cel_macros.specs.Environment.{Roots}
use Rattle.bpf_machine.specs.State.{State, start_state}
use Rattle.wide_tables.specs.declared.wrap_error.WrapError.{WrapError, TheVariants.NoRoots, TheVariants.TooLarge}
use Rattle.wide_tables.specs.declared.wrap_error.WrapError.TheVariants as wrap_error
use Rattle.admission.specs.Deciding.{placed_roots, started}
use Rattle.admission.specs.GatePolicies.{GatePolicy}
use Rattle.admission.specs.declared.run_error.RunError.{RunError, TheVariants.ReviewRefused, TheVariants.Memory}

-- the contents at the start with the roots on which the gate's program runs, for those of the documents
abbrev pub gate_contents : GatePolicy → Roots → Contents
gate_contents g own = started (placed_roots g.wrapped own)

-- the state before the first step on these roots; with a table of indices beside the params they are within the limit
pub record IsStart (g : GatePolicy) (own : Roots) (s : State) : Type 0 where
  pub first : s ≡ start_state g.image (gate_contents g own)
  pub fit : g.wrapped ≡ true → (gate_contents g own).charge ≤ charge_limit

-- the contents are those of documents' roots, and with such a table they are above the limit
abbrev pub IsAbove : GatePolicy → Contents → Type 0
IsAbove g values = (own : Roots) → values ≡ started own → charge_limit < (gate_contents g own).charge

-- the state before the first step, if the contents are those of documents' roots
abbrev pub IsFirstState : GatePolicy → Contents → State → Type 0
IsFirstState g values s = (own : Roots) → values ≡ started own → IsStart g own s

-- that state; or the roots are too large, or an allocation failed
abbrev pub StartsGate : GatePolicy → Contents → Result State RunError → Type 0
StartsGate g values (Ok s) = IsFirstState g values s
StartsGate g values (Err ReviewRefused) = IsAbove g values
StartsGate g values (Err Memory) = Unit {0}
StartsGate g values (Err e) = ⊥

-- the contents on which the program runs, likewise
pub record HasPlacedRoots (g : GatePolicy) (own : Roots) (placed : Contents) : Type 0 where
  pub is : placed ≡ gate_contents g own
  pub fit : g.wrapped ≡ true → (gate_contents g own).charge ≤ charge_limit

abbrev pub PlacesRoots : GatePolicy → Contents → Result Held WrapError → Type 0
PlacesRoots g values (Ok t) = (own : Roots) → values ≡ started own → HasPlacedRoots g own (held_contents t)
PlacesRoots g values (Err NoRoots) = IsAbove g values
PlacesRoots g values (Err TooLarge) = IsAbove g values
PlacesRoots g values (Err wrap_error.Memory) = Unit {0}
