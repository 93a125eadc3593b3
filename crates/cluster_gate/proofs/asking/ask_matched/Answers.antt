-- Proof obligations of `asking::ask_matched`.
use Rattle.cluster_gate.proofs.Prelude.{IfOk-weaker, policy_view, request_view}
use Rattle.cluster_gate.proofs.Asked.{matched_asked, matched_blocked, policy_of}
use Rattle.cluster_gate.proofs.asking.ask_matched.Goals as goal

pub returns-in-Asked : goal.returns-in-Asked
returns-in-Asked c =
    IfOk-weaker c.run_bindings.result _ _
    (λ ended h language s p state is.
    let stands = rw c.in-Asked.is at is.stands in
    matched_asked language s c.args.case.now.review.now c.args.case.now.limits (request_view c.args.case.now.request.now) p c.args.events.now c.run_bindings.new.events ended
    c.in-Asked.compiled stands
    (h language s p state is.asked (record { policy = policy_of language s p c.args.gate.now is; gate = stands.0 })))
    c.run_bindings.ensures

pub returns-in_ok-refuse-in-Blocked : goal.returns-in_ok-refuse-in-Blocked
returns-in_ok-refuse-in-Blocked c language s p state is =
    matched_blocked language s c.args.case.now.review.now c.args.case.now.limits (request_view c.args.case.now.request.now) p c.args.events.now c.refuse.new.events
    (policy_view c.args.gate.now.asked.policy.now) c.in-Blocked.cause (rw c.in-Blocked.is at is.stands) (policy_of language s p c.args.gate.now is)
    (rw c.refusal.ensures at c.in_ok-refuse-in-Blocked.ensures)
