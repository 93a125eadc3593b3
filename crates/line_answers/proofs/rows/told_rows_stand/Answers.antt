-- Proof obligations of `rows::told_rows_stand`.
use Rattle.std.specs.Fmt.{digits}
use Rattle.line_answers.proofs.Prelude.{refl}
use Rattle.line_answers.proofs.rows.told_rows_stand.Goals as goal

pub returns : goal.returns
unfolding digits
returns c = record { refused = refl; by_a_policy = refl; no_memory = refl; decided = refl; passed_over = refl; refused_within = refl }
