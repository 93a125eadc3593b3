-- Loop invariants of `events::Events::act_on`.
use Rattle.cluster_response.proofs.Prelude.{◌≡◌, action_event, binding_view, drop, events_view, finding_view, map, with_events}
use Rattle.cluster_response.proofs.events.Events.act_on.Given as goal

abbrev pub invariant-loop-action : goal.invariant-loop-action
invariant-loop-action l =
    let acted = action_event l.policy (binding_view l.binding) (finding_view l.finding) in
    with_events (events_view l.self) (map acted (drop l.action-index l.action-items)) ≡ with_events (events_view l.initial.self) (map acted l.action-items)
