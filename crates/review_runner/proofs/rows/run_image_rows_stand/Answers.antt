-- Proofs of `rows::run_image_rows_stand`: the result meets the contract.

use Rattle.review_runner.proofs.Prelude.{refl}
use Rattle.review_runner.proofs.Shape.{words_on_literals}
use Rattle.review_runner.proofs.rows.run_image_rows_stand.Goals as goal

pub returns-clause-given : goal.returns-clause-given
unfolding words_on_literals
returns-clause-given c = (refl, refl)

pub returns-clause-left_out : goal.returns-clause-left_out
unfolding words_on_literals
returns-clause-left_out c = (refl, refl)

pub returns-clause-most : goal.returns-clause-most
unfolding words_on_literals
returns-clause-most c = (refl, refl)

pub returns-clause-past_most : goal.returns-clause-past_most
unfolding words_on_literals
returns-clause-past_most c = λ e. cc
