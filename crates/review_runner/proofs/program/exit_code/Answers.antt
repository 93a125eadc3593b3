-- Proofs of `program::exit_code`: the result meets the contract.

use Rattle.review_runner.proofs.Prelude.{Err}
use Rattle.review_runner.proofs.EffectWords.{by_words}
use Rattle.review_runner.proofs.Programs.{closes}
use Rattle.review_runner.proofs.program.exit_code.Goals as goal

pub returns-in-Ok : goal.returns-in-Ok
returns-in-Ok g c = closes (record { once = c.compiles_once.ensures.answer; unlimited = c.runs_end_once.ensures.unlimited }) _ _ _ _ _ c.in-Ok.done _ c.in-Ok.ensures c.left.ensures.status c.left.ensures.says

pub returns-in-Err : goal.returns-in-Err
returns-in-Err g c = record { ending = Err _; does = by_words (record { once = c.compiles_once.ensures.answer; unlimited = c.runs_end_once.ensures.unlimited }) _ _ _ _ _ c.in-Err.ensures; status_is = c.exit_with.ensures.status; says = c.exit_with.ensures.says }
