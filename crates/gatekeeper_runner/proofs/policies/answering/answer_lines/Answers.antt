-- Proof obligations of `policies::answering::answer_lines`.
use Rattle.line_answers.proofs.Meaning.{input_gives, line_gives}
use Rattle.gatekeeper_runner.proofs.policies.answering.answer_lines.Goals as goal

pub returns : goal.returns
returns g c policies are =
    input_gives _ _ (line_gives _ _ _ _ (λ line text decides. decides policies are)) _ _ _ _ c.answer_lines.result c.answer_lines.ensures
