-- Proofs of `program::validations::put_message`: the result meets the contract.

use Rattle.policy_code.proofs.Prelude.{◌∙◌, ap, on_ok_weaker, core_view, with_expression, Emitted, with_piece, message_tail}
use Rattle.policy_code.proofs.MessageTails.{last_slot, tail_put}
use Rattle.policy_code.proofs.program.validations.put_message.Goals as goal

pub returns-clause-added : goal.returns-clause-added
returns-clause-added c =
    let tree = core_view c.args.core.now in
    let before = c.in_ok-put_expression.ensures ∙ ap (λ (e : Emitted). with_expression e c.args.scope.now tree) c.count.ensures in
    on_ok_weaker c.put.result
    (λ put. tail_put c.args.place c.message_tail-tail.result _ c.put_expression.new.emitter c.put_each.new.emitter c.put.new.self c.message_tail-tail.ensures c.in_ok-put_each.ensures put ∙ ap (λ (e : Emitted). with_piece e (message_tail c.args.place)) before)
    c.put.ensures.code

pub returns-clause-last : goal.returns-clause-last
returns-clause-last c = last_slot c.args.place c.message_tail-tail.result _ c.put_each.new.emitter c.put.new.self c.put.result c.message_tail-tail.ensures c.put.ensures.ok c.put.ensures.code
