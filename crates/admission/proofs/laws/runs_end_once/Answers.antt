-- Proofs of `laws::runs_end_once`: the result meets the contract.

use Rattle.admission.proofs.Ends.{greater_decides, no_limit_of_reads, out_of_reads_only, out_of_steps_only, stopped_only}
use Rattle.admission.proofs.laws.runs_end_once.Goals as goal

pub returns-clause-steps : goal.returns-clause-steps
returns-clause-steps c = out_of_steps_only c.limits_hold.ensures.once

pub returns-clause-reads : goal.returns-clause-reads
returns-clause-reads c = out_of_reads_only c.limits_hold.ensures.once

pub returns-clause-stopped : goal.returns-clause-stopped
returns-clause-stopped c = stopped_only c.limits_hold.ensures.once

pub returns-clause-unlimited : goal.returns-clause-unlimited
returns-clause-unlimited c = no_limit_of_reads c.limits_hold.ensures.none c.stops_once.ensures

pub returns-clause-greater : goal.returns-clause-greater
returns-clause-greater c = greater_decides c.limits_hold.ensures.once
