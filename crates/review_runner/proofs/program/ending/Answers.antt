-- Proofs of `program::ending`: the result meets the contract.

use Rattle.review_runner.proofs.Prelude.{refl, faults, no_words}
use Rattle.review_runner.specs.Program.{nothing}
use Rattle.review_runner.proofs.Programs.{as_asked}
use Rattle.cli.proofs.Endings.{words_refused}
use Rattle.admission.proofs.Results.{is_err}
use Rattle.review_runner.proofs.program.ending.Goals as goal

pub returns-in_err-words : goal.returns-in_err-words
returns-in_err-words g c = rw (c.in_err-words.was, is_err c.from_residual.ensures.1) (nothing no_words refl)

pub returns-in_err-asked : goal.returns-in_err-asked
returns-in_err-asked g c =
    rw (c.in_ok-words.was, is_err c.from_residual-in_err-asked.ensures.1, ← c.deref.ensures.value) (nothing (words_refused faults _ _ c.in_err-asked.ensures) refl)

pub returns : goal.returns
returns g c =
    let ordered = rw c.deref.ensures.value at c.in_ok-asked.ensures in
    rw c.in_ok-words.was (as_asked _ _ _ _ c.done.result (record { words = _; are_given = refl; are_taken = ordered.0; asked = ordered.1 }) c.done.ensures)
