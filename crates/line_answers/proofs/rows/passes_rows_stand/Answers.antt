-- Proof obligations of `rows::passes_rows_stand`.
use Rattle.line_answers.specs.Lines.{allowing_text}
use Rattle.line_answers.proofs.Prelude.{refl}
use Rattle.line_answers.proofs.rows.passes_rows_stand.Goals as goal

pub returns : goal.returns
unfolding allowing_text
returns c = record { allowed = refl; annotated = refl; denied = refl; refused = refl; by_a_policy = refl; no_memory = refl; passed_over = refl }
