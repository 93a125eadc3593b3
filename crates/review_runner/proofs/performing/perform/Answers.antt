-- Proofs of `performing::perform`: the result meets the contract.

use Rattle.review_runner.proofs.Prelude.{refl}
use Rattle.review_runner.proofs.MadeFiles.{same_files}
use Rattle.review_runner.proofs.Performed.{is_answered, is_refused, kept_on_err, lacks_on_err, no_room, stays}
use Rattle.admission.proofs.Results.{is_err}
use Rattle.review_runner.proofs.performing.perform.Goals as goal

pub returns-in_err-room : goal.returns-in_err-room
returns-in_err-room g c = rw (is_err c.from_residual.ensures.1) (record { done = tt; lacks = no_room _ _ c.requires; memory = same_files _ _ refl; stays = λ only. refl })

pub returns-in-Ok : goal.returns-in-Ok
returns-in-Ok g c = record {
  done = is_answered _ _ _ c.in-Ok.answer _ c.in-Ok.ensures c.in_ok-room.ensures.items;
  lacks = tt;
  memory = tt;
  stays = stays _ _ _ _ c.in-Ok.ensures;
}

pub returns-in-Err : goal.returns-in-Err
returns-in-Err g c = record {
  done = is_refused _ _ _ _ _ c.in-Err.ensures c.of_refusal.ensures.told c.of_refusal.ensures.done;
  lacks = lacks_on_err _ _ _ _ _ c.in-Err.ensures c.of_refusal.ensures.memory;
  memory = kept_on_err _ _ _ _ _ c.in-Err.ensures;
  stays = stays _ _ _ _ c.in-Err.ensures;
}
