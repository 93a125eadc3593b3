-- Proofs of `laws::limits_hold`: the result meets the contract.

use Rattle.bpf_machine.proofs.Limiting.{greater_goes_on, limited_once, no_limit_is_run, slices_agree}
use Rattle.bpf_machine.proofs.laws.limits_hold.Goals as goal

pub returns-clause-once : goal.returns-clause-once
returns-clause-once c = limited_once

pub returns-clause-none : goal.returns-clause-none
returns-clause-none c = no_limit_is_run

pub returns-clause-greater : goal.returns-clause-greater
returns-clause-greater c = greater_goes_on

pub returns-clause-slices : goal.returns-clause-slices
returns-clause-slices c = slices_agree
