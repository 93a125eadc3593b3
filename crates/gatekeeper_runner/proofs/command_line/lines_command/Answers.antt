-- Proof obligations of `command_line::lines_command`.
use Rattle.gatekeeper_runner.proofs.Prelude.{◌≡◌, ◌∙◌, codes, IfOk-weaker, app_of, with_rule, files_rule, lines_app, policies_app, steps_rule, switch_rule}
use Rattle.gatekeeper_runner.proofs.command_line.lines_command.Goals as goal

pub returns : goal.returns
unfolding lines_app
returns c =
    let first : app_of c.in_ok-command.command ≡ with_rule policies_app (files_rule (codes "cluster")) = c.in_ok-command.ensures.shape c.files_argument.ensures.local ∙ (λ i. with_rule (c.in_ok-policies_command.ensures i) (c.files_argument.ensures.rule i)) in
    let second = c.in_ok-arg.ensures.shape c.switch_argument.ensures.local ∙ (λ i. with_rule (first i) (c.switch_argument.ensures.rule i)) in
    let third : app_of c.in_ok-command-2.command ≡ with_rule (with_rule (with_rule policies_app (files_rule (codes "cluster"))) (switch_rule (codes "partial"))) steps_rule = c.in_ok-command-2.ensures.shape c.steps_argument.ensures.local ∙ (λ i. with_rule (second i) (c.steps_argument.ensures.rule i)) in
    let fourth = c.in_ok-command-3.ensures.shape c.reads_argument.ensures.local ∙ (λ i. with_rule (third i) (c.reads_argument.ensures.rule i)) in
    let fifth = c.in_ok-command-4.ensures.shape c.max_line_argument.ensures.local ∙ (λ i. with_rule (fourth i) (c.max_line_argument.ensures.rule i)) in
    let sixth = c.in_ok-command-5.ensures.shape c.switch_argument-2.ensures.local ∙ (λ i. with_rule (fifth i) (c.switch_argument-2.ensures.rule i)) in
    IfOk-weaker c.arg-7.result _ _ (λ r adds. adds.shape c.switch_argument-3.ensures.local ∙ (λ i. with_rule (sixth i) (c.switch_argument-3.ensures.rule i))) c.arg-7.ensures
