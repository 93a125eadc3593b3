-- Proofs of `command_line::commands::run_image_command`: the command has its shape.

use Rattle.review_runner.proofs.Prelude.{◌≡◌, ◌∙◌, codes, IfOk-weaker, app_of, new_app, with_rule, command, file_rule}
use Rattle.review_runner.proofs.command_line.commands.run_image_command.Goals as goal

pub returns-clause-shape : goal.returns-clause-shape
unfolding command
returns-clause-shape c =
    let first : app_of c.in_ok-command.command ≡ with_rule (new_app (codes "run-image")) (file_rule (codes "IMAGE")) =
    c.in_ok-command.ensures.shape c.file_argument.ensures.local ∙ (λ i. with_rule (c.new.ensures.app i) (c.file_argument.ensures.rule i)) in
    IfOk-weaker c.arg-2.result _ _ (λ r adds. adds.shape c.steps_argument.ensures.local ∙ (λ i. with_rule (first i) (c.steps_argument.ensures.rule i))) c.arg-2.ensures
