-- Proofs of `command_line::commands::review_command`: the command has its shape.

use Rattle.review_runner.proofs.Prelude.{◌≡◌, ◌∙◌, ap, codes, IfOk-weaker, app_of, new_app, with_documents, with_rule, command, required_option_rule}
use Rattle.review_runner.proofs.command_line.commands.review_command.Goals as goal

pub returns-clause-shape : goal.returns-clause-shape
unfolding command with_documents
returns-clause-shape c =
    let first : app_of c.in_ok-command.command ≡ with_rule (new_app (codes "review")) (required_option_rule (codes "policy")) =
    c.in_ok-command.ensures.shape c.required_option_argument.ensures.local ∙ (λ i. with_rule (c.new.ensures.app i) (c.required_option_argument.ensures.rule i)) in
    let second = c.in_ok-command-2.ensures.shape c.required_option_argument-2.ensures.local ∙ (λ i. with_rule (first i) (c.required_option_argument-2.ensures.rule i)) in
    let third = c.in_ok-with_documents.ensures.shape ∙ ap with_documents second in
    IfOk-weaker c.arg-3.result _ _ (λ r adds. adds.shape c.steps_argument.ensures.local ∙ (λ i. with_rule (third i) (c.steps_argument.ensures.rule i))) c.arg-3.ensures
