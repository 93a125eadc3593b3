-- Proof obligations of `endings::answer_or_tell`.
use Rattle.gatekeeper_runner.proofs.Prelude.{refl}
use Rattle.gatekeeper_runner.proofs.endings.answer_or_tell.Goals as goal

pub returns-then-verbose : goal.returns-then-verbose
returns-then-verbose g c = rw c.if-verbose.true c.answer_and_tell.ensures

pub returns : goal.returns
returns g c = rw c.if-verbose.false (c.answer_lines.ensures, refl)
