-- Proof obligations of `translating::answer_translation`.
use Rattle.gatekeeper_runner.proofs.Prelude.{refl}
use Rattle.gatekeeper_runner.specs.Endings.{not_started, started}
use Rattle.gatekeeper_runner.proofs.translating.answer_translation.Goals as goal

pub returns-in-Ok-clause-ends : goal.returns-in-Ok-clause-ends
returns-in-Ok-clause-ends g c input = started _ c.in-Ok.ensures.translates (record {
  unread = refl;
  told = _;
  notes = rw c.as_slice.ensures.value at c.tell_bytes.ensures;
  ends = record {
    ending = _;
    does = rw c.as_slice-in-Ok.ensures.value at c.tell_text-ending.ensures;
    status_is = c.exit_with.ensures.status;
    says = c.exit_with.ensures.says;
  };
})

pub returns-in-Err-clause-ends : goal.returns-in-Err-clause-ends
returns-in-Err-clause-ends g c input = not_started c.in-Err.ensures.translates refl refl c.end_start.ensures
