-- Proofs of `rows::gate_rows_stand`: the results meet the contract.

use Rattle.std.proofs.Common.{refl, ap}
use Rattle.std.specs.Prelude.{bytes_eq, codes}
use Rattle.cluster_state.proofs.OnLiterals.{lists_on_literals}
use Rattle.policy_glue.specs.Reading.{spec_keys, validation_keys}
use Rattle.value_store.specs.Documents.{document_of}
use Rattle.cluster_rows.proofs.rows.gate_rows_stand.Goals as goal

pub returns-clause-blocks : goal.returns-clause-blocks
unfolding lists_on_literals document_of
returns-clause-blocks c = record {
  no_kind = refl;
  unknown = refl;
  known = refl;
  refused = refl;
  names_namespace = refl;
  unknown_param_kind = refl;
  blocked_policy = refl;
  blocked_kind = refl;
}

pub returns-clause-errors : goal.returns-clause-errors
unfolding lists_on_literals document_of
returns-clause-errors c = record {
  refused_policy = refl;
  refused_review = refl;
  refused_namespace = refl;
  out_of_steps = refl;
  over_limit = refl;
  out_of_reads = refl;
  no_memory = refl;
}

pub returns-clause-texts : goal.returns-clause-texts
unfolding lists_on_literals document_of
returns-clause-texts c = record {
  none = tt;
  text_of_none = λ is. is;
  no_text = λ is. is;
  text = record { reads = λ few. refl; compact = λ no_fraction. refl };
  other_text = λ is. let same = ap (λ text. bytes_eq text (codes "null")) (is.compact refl) in cc;
  text_with_a_blank = λ is. let same = ap (λ text. bytes_eq text (codes "null")) (is.compact refl) in cc;
}

pub returns-clause-documents : goal.returns-clause-documents
unfolding lists_on_literals document_of spec_keys validation_keys
returns-clause-documents c = record {
  status = refl;
  truth = refl;
  number = refl;
  name = refl;
  array = refl;
  optional_fields = refl;
  required_fields = refl;
  annotations = refl;
  given_annotations = refl;
  ignore = refl;
  validation = refl;
  second_validation = refl;
  no_validation = refl;
  unknown_field = refl;
  field_of_another_part = refl;
  no_specification = refl;
}
