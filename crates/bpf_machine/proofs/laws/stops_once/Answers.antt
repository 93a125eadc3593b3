-- Proofs of `laws::stops_once`: the result meets the contract.

use Rattle.bpf_machine.proofs.Prelude.{stop_place_only}
use Rattle.bpf_machine.proofs.laws.stops_once.Goals as goal

pub returns : goal.returns
returns c = stop_place_only
