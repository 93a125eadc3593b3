-- Proofs of `rows::translation_rows_stand`: the results meet the contract.

use Rattle.std.proofs.Common.{refl}
use Rattle.std.specs.Fmt.{digits}
use Rattle.admission_documents.proofs.OnLiterals.{documents_on_literals}
use Rattle.cel_reader.specs.Words.{is_reserved}
use Rattle.policy_glue.specs.Reading.{policy_in, policy_of, has_head, has_top_form, top_keys, has_spec_form}
use Rattle.policy_glue.specs.Reading.{spec_keys, spec_parts, named_keys, named_parts, validation_keys, validation_parts, reason_in}
use Rattle.value_store.specs.Documents.{document_of}
use Rattle.policy_translation.specs.TranslationText.{translation_text}
use Rattle.cluster_rows.proofs.rows.translation_rows_stand.Goals as goal

pub returns : goal.returns
unfolding documents_on_literals translation_text digits document_of policy_in policy_of has_head has_top_form top_keys has_spec_form spec_keys spec_parts named_keys named_parts is_reserved validation_keys validation_parts reason_in
returns c = record { all = refl; least = refl; all_read = refl; least_read = refl }
