-- Proofs of `command_line::commands::making_command`: the command has its shape.

use Rattle.review_runner.proofs.Prelude.{◌≡◌, ◌∙◌, IfOk-weaker, app_of, new_app, with_rule, command, file_rule}
use Rattle.review_runner.proofs.command_line.commands.making_command.Goals as goal

pub returns-clause-shape : goal.returns-clause-shape
unfolding command
returns-clause-shape c =
    let first : app_of c.in_ok-command.command ≡ with_rule (new_app c.args.name.now) (file_rule c.args.source.now) =
    c.in_ok-command.ensures.shape c.file_argument.ensures.local ∙ (λ i. with_rule (c.new.ensures.app i) (c.file_argument.ensures.rule i)) in
    IfOk-weaker c.arg-2.result _ _ (λ r adds. adds.shape c.file_argument-2.ensures.local ∙ (λ i. with_rule (first i) (c.file_argument-2.ensures.rule i))) c.arg-2.ensures
