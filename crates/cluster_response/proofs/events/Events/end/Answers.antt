-- Proof obligations of `events::Events::end`.
use Rattle.cluster_response.proofs.Prelude.{ends, refl, true}
use Rattle.cluster_response.proofs.Kept.{kept_one}
use Rattle.cluster_response.proofs.events.Events.end.Goals as goal

pub returns : goal.returns
returns c = λ es kept. kept_one c.args.self.now (record c.args.self.now { ended = true }) es ends kept refl
