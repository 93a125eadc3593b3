-- Proof obligations of `translating::ordering::translation_command`.
use Rattle.gatekeeper_runner.proofs.Prelude.{◌≡◌, ◌∙◌, codes, IfOk-weaker, app_of, new_app, required_option_rule, with_rule, translation_app}
use Rattle.gatekeeper_runner.proofs.translating.ordering.translation_command.Goals as goal

pub returns : goal.returns
unfolding translation_app
returns c =
    let first : app_of c.in_ok-command.command ≡ with_rule (new_app (codes "gatekeeper")) (required_option_rule (codes "translate")) = c.in_ok-command.ensures.shape c.required_option_argument-file.ensures.local ∙ (λ i. with_rule (c.new.ensures.app i) (c.required_option_argument-file.ensures.rule i)) in
    IfOk-weaker c.arg-2.result _ _ (λ r adds. adds.shape c.switch_argument.ensures.local ∙ (λ i. with_rule (first i) (c.switch_argument.ensures.rule i))) c.arg-2.ensures
