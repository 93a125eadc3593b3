-- Proofs of `command_line::commands::running_command`: the command has its shape.

use Rattle.review_runner.proofs.Prelude.{◌≡◌, ◌∙◌, [], rules, take, IfOk-weaker, app_of, with_subcommand, commands, with_commands}
use Rattle.review_runner.proofs.command_line.commands.running_command.Goals as goal

pub returns-in-Ok-clause-shape : goal.returns-in-Ok-clause-shape
unfolding with_commands commands
returns-in-Ok-clause-shape c =
    let start : app_of c.subcommand_required-command.result ≡ with_commands [] = search rules in
    let first : app_of c.in_ok-command.command ≡ with_commands (take 1 commands) =
    c.in_ok-command.ensures.shape c.in_ok-run_image.ensures.local ∙ (λ i. with_subcommand (start i) (c.in_ok-run_image.ensures.shape i).top) in
    IfOk-weaker c.subcommand-in-Ok.result _ _
    (λ r adds. adds.shape c.in-Ok.ensures.local ∙ (λ i. with_subcommand (first i) (c.in-Ok.ensures.shape i).top))
    c.subcommand-in-Ok.ensures
