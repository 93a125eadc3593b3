-- Loop invariants of `findings::findings`.
use Rattle.verdicts.proofs.Prelude.{drop, map, words_view, validation_view}
use Rattle.verdicts.proofs.Found.{FindingsGo}
use Rattle.verdicts.specs.Findings.{finding_view}
use Rattle.verdicts.proofs.findings.findings.Given as goal

abbrev pub invariant-loop-i : goal.invariant-loop-i
invariant-loop-i l = FindingsGo l.failure_policy (map validation_view l.validations) (map validation_view (drop l.i l.validations)) (words_view l.verdict) l.i (map finding_view l.findings.items)
