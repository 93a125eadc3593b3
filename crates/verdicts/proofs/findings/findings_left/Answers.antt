-- Proof obligations of `findings::findings_left`.
use Rattle.verdicts.proofs.Prelude.{◌∙◌, ap, arith, map}
use Rattle.verdicts.proofs.Found.{nothing_left}
use Rattle.verdicts.specs.Findings.{finding_view}
use Rattle.verdicts.proofs.findings.findings_left.Goals as goal

pub returns-in-Skipped : goal.returns-in-Skipped
returns-in-Skipped g c v is within layout =
    let read = c.of_word.ensures in
    let first = c.word.ensures in
    let here = c.in-Skipped.is in
    ap (map finding_view) c.new.ensures.items
    ∙ nothing_left c.args.policy.now v (g.V.ValueStore.values c.args.values.now) (g.M.Regions.bytes c.args.memory.now) is layout
    (grind (arith, read, first, here))
