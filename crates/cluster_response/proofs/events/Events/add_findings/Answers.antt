-- Proof obligations of `events::Events::add_findings`.
use Rattle.cluster_response.proofs.Prelude.{on_ok_weaker}
use Rattle.cluster_response.proofs.Kept.{kept_later}
use Rattle.cluster_response.proofs.events.Events.add_findings.Goals as goal

pub returns : goal.returns
returns c = λ es kept. on_ok_weaker c.act_on_each.result (λ e. kept_later c.args.self.now c.act_on_each.new.self es _ kept e) c.act_on_each.ensures
