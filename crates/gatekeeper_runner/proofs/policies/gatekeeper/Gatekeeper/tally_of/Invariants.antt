-- Loop invariant of `policies::gatekeeper::Gatekeeper::tally_of`.

use Rattle.gatekeeper_runner.proofs.Prelude.{ℕ, List, take, OneImage, AreGates, AreTallied, AreValuesOf, PolicyFile, gatekeeper_of}
use Rattle.value_table.specs.Held.{held_contents}
use Rattle.gatekeeper_runner.proofs.policies.gatekeeper.Gatekeeper.tally_of.Given as goal

abbrev pub invariant-loop-gate : goal.invariant-loop-gate
invariant-loop-gate l = (policies asked : List PolicyFile) (review uid : List ℕ) → AreGates asked l.gates
    → AreValuesOf (gatekeeper_of policies l.self) review (held_contents l.table) uid
    → AreTallied OneImage (gatekeeper_of policies l.self) review (take l.gate-index asked) l.tally
