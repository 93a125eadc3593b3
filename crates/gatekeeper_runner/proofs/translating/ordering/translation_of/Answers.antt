-- Proof obligations of `translating::ordering::translation_of`.
use Rattle.gatekeeper_runner.proofs.Prelude.{is_err}
use Rattle.gatekeeper_runner.proofs.translating.ordering.translation_of.Goals as goal

pub returns-in_err-matches : goal.returns-in_err-matches
returns-in_err-matches c = rw (is_err c.from_residual.ensures.1) c.in_err-matches.ensures.taken

pub returns : goal.returns
returns c = (c.in_ok-matches.ensures.taken.0, rw c.in_ok-matches.ensures.rows at c.in_ok-translation_from.ensures)
