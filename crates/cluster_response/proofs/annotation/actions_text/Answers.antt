-- Proof obligations of `annotation::actions_text`.
use Rattle.cluster_response.proofs.Prelude.{◌∙◌, IfOk-weaker, ap, compact_text, has_float}
use Rattle.cluster_response.proofs.Floats.{actions_float}
use Rattle.cluster_response.proofs.annotation.actions_text.Goals as goal

pub returns : goal.returns
returns c =
    let value = c.in_ok-value.ensures in
    IfOk-weaker c.to_string.result _ _ (λ t text. text (ap has_float value ∙ actions_float c.args.actions.now) ∙ ap compact_text value) c.to_string.ensures.text
