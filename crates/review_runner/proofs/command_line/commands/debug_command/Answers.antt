-- Proofs of `command_line::commands::debug_command`: the command has its shape.

use Rattle.review_runner.proofs.Prelude.{◌≡◌, ◌∙◌, ap, codes, IfOk-weaker, app_of, new_app, with_documents, with_rule, command, file_rule}
use Rattle.review_runner.proofs.command_line.commands.debug_command.Goals as goal

pub returns-clause-shape : goal.returns-clause-shape
unfolding command with_documents
returns-clause-shape c =
    let first : app_of c.in_ok-command.command ≡ with_rule (new_app (codes "debug")) (file_rule (codes "IMAGE")) =
    c.in_ok-command.ensures.shape c.file_argument.ensures.local ∙ (λ i. with_rule (c.new.ensures.app i) (c.file_argument.ensures.rule i)) in
    let second = c.in_ok-arg.ensures.shape c.option_argument.ensures.local ∙ (λ i. with_rule (first i) (c.option_argument.ensures.rule i)) in
    IfOk-weaker c.with_documents.result _ _ (λ r is. is ∙ ap with_documents second) c.with_documents.ensures.shape
