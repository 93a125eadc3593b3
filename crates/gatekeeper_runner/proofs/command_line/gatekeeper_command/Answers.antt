-- Proof obligations of `command_line::gatekeeper_command`.
use Rattle.gatekeeper_runner.proofs.Prelude.{◌≡◌, ◌∙◌, codes, IfOk-weaker, app_of, with_rule, gatekeeper_app, lines_app, switch_rule}
use Rattle.gatekeeper_runner.proofs.command_line.gatekeeper_command.Goals as goal

pub returns : goal.returns
unfolding gatekeeper_app
returns c =
    let first : app_of c.in_ok-command.command ≡ with_rule lines_app (switch_rule (codes "profile")) = c.in_ok-command.ensures.shape c.switch_argument.ensures.local ∙ (λ i. with_rule (c.in_ok-lines_command.ensures i) (c.switch_argument.ensures.rule i)) in
    IfOk-weaker c.arg-2.result _ _ (λ r adds. adds.shape c.switch_argument-2.ensures.local ∙ (λ i. with_rule (first i) (c.switch_argument-2.ensures.rule i))) c.arg-2.ensures
