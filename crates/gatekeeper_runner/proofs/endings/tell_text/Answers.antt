-- Proof obligations of `endings::tell_text`.
use Rattle.gatekeeper_runner.specs.Endings.{all, part}
use Rattle.gatekeeper_runner.proofs.endings.tell_text.Goals as goal

pub returns-in-Ok : goal.returns-in-Ok
returns-in-Ok g c = all (record { adds = c.in-Ok.ensures.whole; failed = c.in-Ok.ensures.ok })

pub returns-in-Err : goal.returns-in-Err
returns-in-Err g c =
    let many = c.in-Err.ensures.part in
    part (record { many = many.0; is_cut = many.1; adds = many.2; failed = c.in-Err.ensures.err })
