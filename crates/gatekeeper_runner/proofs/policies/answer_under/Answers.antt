-- Proof obligations of `policies::answer_under`.
use Rattle.gatekeeper_runner.proofs.Prelude.{refl}
use Rattle.line_answers.proofs.Meaning.{line_gives}
use Rattle.gatekeeper_runner.specs.Endings.{not_started, started}
use Rattle.gatekeeper_runner.proofs.LineEnds.{ends_gives}
use Rattle.gatekeeper_runner.proofs.policies.answer_under.Goals as goal

pub returns-in-Ok-clause-ends : goal.returns-in-Ok-clause-ends
returns-in-Ok-clause-ends g c =
    let keeps = c.in-Ok.ensures.keeps in
    started _ keeps.2 (ends_gives _ _ (line_gives _ _ _ _ (λ line text decides. decides keeps.0 keeps.1)) _ _ _ _ _ _ _ _ _ c.end_lines.ensures)

pub returns-in-Err-clause-ends : goal.returns-in-Err-clause-ends
returns-in-Err-clause-ends g c = not_started c.in-Err.ensures.keeps refl refl c.end_start.ensures
