-- Proof obligations of `command_line::policies_command`.
use Rattle.gatekeeper_runner.proofs.Prelude.{◌≡◌, ◌∙◌, ap, codes, IfOk-weaker, app_of, new_app, with_rule, with_documents, files_rule, policies_app}
use Rattle.gatekeeper_runner.proofs.command_line.policies_command.Goals as goal

pub returns : goal.returns
unfolding policies_app
returns c =
    let first : app_of c.in_ok-command.command ≡ with_rule (new_app (codes "gatekeeper")) (files_rule (codes "policy")) = c.in_ok-command.ensures.shape c.files_argument.ensures.local ∙ (λ i. with_rule (c.new.ensures.app i) (c.files_argument.ensures.rule i)) in
    IfOk-weaker c.with_documents.result _ _ (λ r is. is ∙ ap with_documents first) c.with_documents.ensures.shape
