-- Proof obligations of `cluster::Cluster::decide`.
use Rattle.cluster_gate.proofs.Prelude.{◌∙◌, IfOk-weaker, ap, option_map, sym, view}
use Rattle.cluster_gate.specs.Dispatch.{no_review}
use Rattle.cluster_gate.proofs.Requested.{not_json}
use Rattle.cluster_gate.proofs.cluster.Cluster.decide.Goals as goal

pub returns-in-None : goal.returns-in-None
returns-in-None c language s is = no_review (not_json c.args.review.now (sym c.in_ok-document.ensures ∙ ap (option_map view) c.in-None.is))

pub returns-in-Some : goal.returns-in-Some
returns-in-Some c =
    IfOk-weaker c.decide_document.result _ _ (λ o h language s is. h language s is (sym c.in_ok-document.ensures ∙ ap (option_map view) c.in-Some.is)) c.decide_document.ensures
