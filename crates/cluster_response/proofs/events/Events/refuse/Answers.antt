-- Proof obligations of `events::Events::refuse`.
use Rattle.cluster_response.proofs.Prelude.{sym}
use Rattle.cluster_response.proofs.Kept.{kept_one}
use Rattle.cluster_response.proofs.events.Events.refuse.Goals as goal

pub returns : goal.returns
returns c = λ es kept. rw (sym c.in_ok-undecided.ensures) (kept_one c.args.self.now c.keep_undecided.new.self es _ kept c.keep_undecided.ensures)
