-- Proof obligations of `endings::tell_memory`.
use Rattle.gatekeeper_runner.proofs.Prelude.{◌≡◌, ◌∙◌}
use Rattle.cli.specs.Refusals.{refusal_line}
use Rattle.cli.specs.declared.refusal.Refusal.TheVariants.{Memory}
use Rattle.gatekeeper_runner.proofs.endings.tell_memory.Goals as goal

pub returns : goal.returns
returns g c =
    let is : c.as_slice.result.now ≡ refusal_line Memory = c.as_slice.ensures ∙ c.refusal_line-line.ensures.text in
    rw is at c.tell_bytes.ensures
