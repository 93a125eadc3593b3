-- The definitions that examples on literal documents unfold.
use Rattle.std.specs.Char.{encode_utf8}
use Rattle.std.specs.Prelude.{⊤}
use Rattle.std.specs.Str.{chars, is_utf8}
use Rattle.serde_json.proofs.OnLiterals.{serde_json_on_literals}
use Rattle.label_selectors.specs.Storing.{checked_label, checked_requirement, is_dns_label, is_label_key, is_label_value, is_name, is_prefix}
use Rattle.admission_documents.proofs.Prelude.{field, is_as_sent, keeps_kind, keeps_resource, keeps_subresource, kind_in, label_in, labels_in, match_expressions_of, match_constraints_of, match_keys, match_labels_of, match_parts, match_policy_of, match_resources_of, operation_of, patterns_in, request_in, requirement_keys, requirement_parts, resource_in, rule_keys, rule_parts, rules_of, scope_of, selector_keys, selector_of, selector_parts, target_parts, texts_of}

unfoldable pub documents_on_literals : ⊤
unfolding serde_json_on_literals chars encode_utf8 is_utf8 checked_label checked_requirement is_dns_label is_label_key is_label_value is_name is_prefix field is_as_sent keeps_kind keeps_resource keeps_subresource kind_in label_in labels_in match_expressions_of match_constraints_of match_keys match_labels_of match_parts match_policy_of match_resources_of operation_of patterns_in request_in requirement_keys requirement_parts resource_in rule_keys rule_parts rules_of scope_of selector_keys selector_of selector_parts target_parts texts_of
documents_on_literals = tt
