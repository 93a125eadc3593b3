-- Loop invariants of `events::Events::act_on_each`.
use Rattle.cluster_response.proofs.Prelude.{◌≡◌, binding_view, drop, events_view, finding_view, findings_events, map, with_events}
use Rattle.cluster_response.proofs.events.Events.act_on_each.Given as goal

abbrev pub invariant-loop-finding : goal.invariant-loop-finding
invariant-loop-finding l =
    with_events (events_view l.self) (findings_events l.policy (binding_view l.binding) (map finding_view (drop l.finding-index l.findings)))
    ≡ with_events (events_view l.initial.self) (findings_events l.policy (binding_view l.binding) (map finding_view l.findings))
