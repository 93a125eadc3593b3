-- Proof obligations of `responding::response`.
use Rattle.cluster_response.proofs.Prelude.{◌∙◌, IfOk-weaker, ap, cluster_response, request_view, summary_response}
use Rattle.cluster_response.proofs.responding.response.Goals as goal

pub returns : goal.returns
unfolding cluster_response
returns c = λ es kept.
    IfOk-weaker c.summary_text.result _ _
    (λ bytes text. text ∙ ap (summary_response (request_view c.args.request.now) c.args.uid.now) kept)
    c.summary_text.ensures
