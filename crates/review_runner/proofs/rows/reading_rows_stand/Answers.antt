-- Proofs of `rows::reading_rows_stand`: the result meets the contract.

use Rattle.review_runner.proofs.Prelude.{refl}
use Rattle.review_runner.proofs.Shape.{words_on_literals}
use Rattle.review_runner.proofs.rows.reading_rows_stand.Goals as goal

pub returns-clause-compile : goal.returns-clause-compile
unfolding words_on_literals
returns-clause-compile c = refl

pub returns-clause-asm : goal.returns-clause-asm
unfolding words_on_literals
returns-clause-asm c = refl

pub returns-clause-run_image : goal.returns-clause-run_image
unfolding words_on_literals
returns-clause-run_image c = refl

pub returns-clause-zeros : goal.returns-clause-zeros
unfolding words_on_literals
returns-clause-zeros c = refl

pub returns-clause-list : goal.returns-clause-list
unfolding words_on_literals
returns-clause-list c = refl

pub returns-clause-debug : goal.returns-clause-debug
unfolding words_on_literals
returns-clause-debug c = refl

pub returns-clause-debug_all : goal.returns-clause-debug_all
unfolding words_on_literals
returns-clause-debug_all c = refl

pub returns-clause-review : goal.returns-clause-review
unfolding words_on_literals
returns-clause-review c = refl

pub returns-clause-review_all : goal.returns-clause-review_all
unfolding words_on_literals
returns-clause-review_all c = refl
