-- Proof obligations of `findings::findings_of`.
use Rattle.verdicts.proofs.Prelude.{map, sym, IfOk-weaker, words_view}
use Rattle.verdicts.proofs.Found.{found}
use Rattle.verdicts.specs.Findings.{finding_view}
use Rattle.verdicts.proofs.findings.findings_of.Goals as goal

pub returns : goal.returns
returns c = λ v told. IfOk-weaker c.findings_by.result _ _ (λ all here. found c.policy.inside.parts c.args.policy.now v (words_view c.args.verdict.now) (map finding_view all.items) (sym c.policy.view_is) c.policy.invariant told here) c.findings_by.ensures
