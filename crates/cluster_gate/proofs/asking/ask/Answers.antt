-- Proof obligations of `asking::ask`.
use Rattle.cluster_gate.proofs.Prelude.{IfOk-weaker, policy_view, request_view, state_view}
use Rattle.cluster_gate.proofs.Asked.{asks_in_trouble, asks_matched, asks_no, asks_unknown, policy_of, same_answer}
use Rattle.cluster_gate.proofs.asking.ask.Goals as goal

pub returns-in-No : goal.returns-in-No
returns-in-No c language s p state is =
    asks_no language s c.args.case.now.review.now c.args.case.now.limits (request_view c.args.case.now.request.now) p c.args.events.now c.args.gate.now.standing is.stands
    (same_answer language s (state_view c.args.state.now) (policy_view c.args.gate.now.asked.policy.now) p (request_view c.args.case.now.request.now) _ state (policy_of language s p c.args.gate.now is)
    c.in-No.ensures)

pub returns-in_ok-refuse-in-Unknown : goal.returns-in_ok-refuse-in-Unknown
returns-in_ok-refuse-in-Unknown c language s p state is =
    asks_unknown language s c.args.case.now.review.now c.args.case.now.limits (request_view c.args.case.now.request.now) p c.args.events.now c.refuse.new.events
    (policy_view c.args.gate.now.asked.policy.now) c.args.gate.now.standing is.stands (policy_of language s p c.args.gate.now is)
    (same_answer language s (state_view c.args.state.now) (policy_view c.args.gate.now.asked.policy.now) p (request_view c.args.case.now.request.now) _ state (policy_of language s p c.args.gate.now is)
    c.in-Unknown.ensures)
    c.in_ok-refuse-in-Unknown.ensures

pub returns-in_ok-ask_in_trouble-in-Trouble : goal.returns-in_ok-ask_in_trouble-in-Trouble
returns-in_ok-ask_in_trouble-in-Trouble c language s p state is =
    asks_in_trouble language s c.args.case.now.review.now c.args.case.now.limits (request_view c.args.case.now.request.now) p c.args.events.now c.ask_in_trouble.new.events
    c.in-Trouble.trouble c.args.gate.now.standing is.stands
    (same_answer language s (state_view c.args.state.now) (policy_view c.args.gate.now.asked.policy.now) p (request_view c.args.case.now.request.now) _ state (policy_of language s p c.args.gate.now is)
    c.in-Trouble.ensures)
    (c.in_ok-ask_in_trouble-in-Trouble.ensures p (policy_of language s p c.args.gate.now is))

pub returns-in-Yes : goal.returns-in-Yes
returns-in-Yes c =
    IfOk-weaker c.ask_matched.result _ _
    (λ ended h language s p state is.
    asks_matched language s c.args.case.now.review.now c.args.case.now.limits (request_view c.args.case.now.request.now) p c.args.events.now c.ask_matched.new.events ended
    (same_answer language s (state_view c.args.state.now) (policy_view c.args.gate.now.asked.policy.now) p (request_view c.args.case.now.request.now) _ state (policy_of language s p c.args.gate.now is)
    c.in-Yes.ensures)
    (h language s p state is))
    c.ask_matched.ensures
