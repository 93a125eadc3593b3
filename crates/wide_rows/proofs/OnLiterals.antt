-- The definitions that rows unfold.
use Rattle.std.specs.Prelude.{⊤}
use Rattle.std.specs.Char.{encode_utf8}
use Rattle.std.specs.Fmt.{digits}
use Rattle.std.specs.Str.{chars, is_utf8, trim_end, trim_start}
use Rattle.serde_json.proofs.OnLiterals.{serde_json_on_literals}
use Rattle.cel_tokens.specs.Bytes.{run}
use Rattle.cel_tokens.specs.Ints.{number_from}
use Rattle.cel_tokens.specs.Texts.{escape}
use Rattle.cel_reader.specs.Words.{is_reserved}
use Rattle.cel_writer.specs.Printed.{printed_in}
use Rattle.policy_code.specs.Verdict.{verdict_of}
use Rattle.policy_glue.specs.Documents.{document_of}
use Rattle.policy_glue.specs.Reading.{has_head, has_spec_form, has_top_form, named_keys, named_parts, policy_of, reason_in}
use Rattle.policy_glue.specs.Reading.{spec_keys, spec_parts, top_keys, validation_keys, validation_parts}
use Rattle.wide_tokens.specs.Gap.{between}
use Rattle.wide_tokens.specs.Lexed.{front}
use Rattle.wide_tokens.specs.Texts.{content}
use Rattle.wide_reader.specs.Faults.{fault, wides_fault, items_fault, entries_fault}
use Rattle.wide_meaning.specs.Functions.{function_named, method_named, text_method, optional_method, list_method}
use Rattle.wide_meaning.specs.Functions.{item_method, items_method, optional_named, sets_named, qualified_named}
use Rattle.wide_meaning.specs.Meaning.{wide_meaning}
use Rattle.wide_translation.specs.Uses.{uses}
use Rattle.wide_widths.specs.Narrow.{is_narrow, is_scalar}
use Rattle.wide_indices.specs.Narrow.{has_narrow_ranges}
use Rattle.wide_policy.specs.WideDocuments.{wide_policy_in, wide_policy_of}
use Rattle.wide_policy.specs.WideEvaluation.{wide_decision_of}

-- what is unfolded to compute the front of a literal text
unfoldable pub tokens_on_literals : ⊤
unfolding run number_from escape between content front
tokens_on_literals = tt

-- what is unfolded to compute the fault of a literal expression
unfoldable pub faults_on_literals : ⊤
unfolding fault wides_fault items_fault entries_fault
faults_on_literals = tt

-- what is unfolded to find a literal name
unfoldable pub names_on_literals : ⊤
unfolding function_named method_named text_method optional_method list_method item_method items_method optional_named sets_named qualified_named
names_on_literals = tt

-- what is unfolded to compute the meaning of a literal expression
unfoldable pub meanings_on_literals : ⊤
unfolding names_on_literals digits wide_meaning
meanings_on_literals = tt

-- what is unfolded to compute the decision of a literal policy
unfoldable pub decisions_on_literals : ⊤
unfolding meanings_on_literals wide_decision_of verdict_of
decisions_on_literals = tt

-- what is unfolded to compute whether the ranges of a literal expression are narrow
unfoldable pub ranges_on_literals : ⊤
unfolding names_on_literals uses is_narrow is_scalar has_narrow_ranges
ranges_on_literals = tt

-- what is unfolded to compute the text of a literal tree
unfoldable pub printed_on_literals : ⊤
unfolding printed_in
printed_on_literals = tt

-- what is unfolded to compute a literal document and its trimmed texts
unfoldable pub texts_on_literals : ⊤
unfolding serde_json_on_literals chars encode_utf8 is_utf8 trim_end trim_start
texts_on_literals = tt

-- what is unfolded to compute the parts of a literal policy
unfoldable pub parts_on_literals : ⊤
unfolding policy_of spec_keys spec_parts named_keys named_parts validation_keys validation_parts reason_in is_reserved
parts_on_literals = tt

-- what is unfolded to compute the policy in a literal document
unfoldable pub documents_on_literals : ⊤
unfolding texts_on_literals document_of has_head has_top_form has_spec_form top_keys parts_on_literals wide_policy_in wide_policy_of
documents_on_literals = tt
