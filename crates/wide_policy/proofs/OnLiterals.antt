-- The definitions that documents worked by hand unfold.
use Rattle.std.specs.Prelude.{⊤}
use Rattle.std.specs.Char.{encode_utf8}
use Rattle.std.specs.Str.{chars, is_utf8, trim_end, trim_start}
use Rattle.serde_json.proofs.OnLiterals.{serde_json_on_literals}
use Rattle.value_store.specs.Documents.{document_of}
use Rattle.policy_glue.specs.Reading.{has_head, has_spec_form, has_top_form, named_keys, named_parts, policy_of, reason_in, spec_keys, spec_parts, top_keys, validation_keys, validation_parts}
use Rattle.wide_policy.specs.WideDocuments.{wide_policy_in, wide_policy_of}

-- what is unfolded to compute the policy in a literal document
unfoldable pub wide_documents_on_literals : ⊤
unfolding serde_json_on_literals chars encode_utf8 is_utf8 trim_end trim_start document_of policy_of has_head has_top_form has_spec_form top_keys spec_keys spec_parts named_keys named_parts validation_keys validation_parts reason_in wide_policy_in wide_policy_of
wide_documents_on_literals = tt
