-- Proof obligations of `rows::name_rows_hold`.
use Rattle.cluster_response.proofs.Prelude.{refl}
use Rattle.cluster_response.proofs.OnLiterals.{answers_on_literals}
use Rattle.cluster_response.proofs.rows.name_rows_hold.Goals as goal

pub returns : goal.returns
unfolding answers_on_literals
returns c = record {
  own = refl;
  own_first = refl;
  in_object = refl;
  generated = refl;
  empty_name = refl;
  no_name = refl;
  no_metadata = refl;
  null_metadata = refl;
  no_text = refl;
  no_object = refl;
  old_object_alone = refl;
  of_a_group = refl;
  of_no_group = refl;
  quotes = refl;
  quotes_of_others = refl;
  html = refl;
  separators = refl;
}
