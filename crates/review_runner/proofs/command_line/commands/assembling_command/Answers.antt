-- Proofs of `command_line::commands::assembling_command`: the command has its shape.

use Rattle.review_runner.proofs.Prelude.{◌∙◌, IfOk-weaker, with_subcommand, commands, with_commands}
use Rattle.review_runner.proofs.command_line.commands.assembling_command.Goals as goal

pub returns-in-Ok-clause-shape : goal.returns-in-Ok-clause-shape
unfolding with_commands commands
returns-in-Ok-clause-shape c =
    IfOk-weaker c.subcommand.result _ _
    (λ r adds. adds.shape c.in-Ok.ensures.local ∙ (λ i. with_subcommand (c.in_ok-command.ensures.shape i) (c.in-Ok.ensures.shape i).top))
    c.subcommand.ensures
