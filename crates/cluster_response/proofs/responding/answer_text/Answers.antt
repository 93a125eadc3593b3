-- Proof obligations of `responding::answer_text`.
use Rattle.cluster_response.proofs.Prelude.{◌∙◌, IfOk-weaker, ap, compact_text, has_float, request_view}
use Rattle.cluster_response.proofs.Floats.{answer_float}
use Rattle.cluster_response.proofs.responding.answer_text.Goals as goal

pub returns : goal.returns
returns c =
    let value = c.in_ok-answer.ensures in
    IfOk-weaker c.to_vec.result _ _
    (λ bytes text. text (ap has_float value ∙ answer_float (request_view c.args.request.now) c.args.uid.now _) ∙ ap compact_text value)
    c.to_vec.ensures.text
