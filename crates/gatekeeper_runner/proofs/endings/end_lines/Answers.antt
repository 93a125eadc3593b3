-- Proof obligations of `endings::end_lines`.
use Rattle.gatekeeper_runner.proofs.endings.end_lines.Goals as goal

pub returns : goal.returns
returns g c = record {
  result = c.answer_or_tell-ended.result;
  told = _;
  answers = c.answer_or_tell-ended.ensures;
  status_is = rw c.ending_of.ensures at c.exit_with.ensures.status;
  says = rw c.ending_of.ensures at c.exit_with.ensures.says;
}
