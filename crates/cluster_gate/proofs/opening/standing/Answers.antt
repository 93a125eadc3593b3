-- Proof obligations of `opening::standing`.
use Rattle.cluster_gate.proofs.Prelude.{IfOk-weaker}
use Rattle.admission.specs.declared.language.Language.TheVariants.{Profile}
use Rattle.cluster_gate.proofs.opening.standing.Goals as goal

pub returns-in-Ok : goal.returns-in-Ok
returns-in-Ok c =
    IfOk-weaker c.standing_of.result _ _
    (λ t h p is. h Profile p (record { text = c.args.text.now; has_text = is; of_policy = c.in-Ok.ensures.compiles; image = c.in-Ok.ensures.one }))
    c.standing_of.ensures
