-- Proof obligations of `laws::order_is_free`.
use Rattle.cluster_gate.proofs.OrderIsFree.{order_is_free}
use Rattle.cluster_gate.proofs.laws.order_is_free.Goals as goal

pub returns : goal.returns
returns c =
    order_is_free c.compiles_once.ensures.answer c.findings_once.ensures c.allowed_exactly.ensures c.warnings_are_those_of_events.ensures
