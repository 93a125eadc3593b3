-- Proof obligations of `events::Events::add_configuration_error`.
use Rattle.cluster_response.proofs.Prelude.{on_ok_weaker}
use Rattle.cluster_response.proofs.Kept.{kept_one}
use Rattle.cluster_response.proofs.events.Events.add_configuration_error.Goals as goal

pub returns : goal.returns
returns c = λ es kept. on_ok_weaker c.deny_unconfigured.result (λ e. kept_one c.args.self.now c.deny_unconfigured.new.self es _ kept e) c.deny_unconfigured.ensures
