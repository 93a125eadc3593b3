-- The definitions that rows of policies unfold.
use Rattle.std.specs.Prelude.{⊤}
use Rattle.std.specs.Str.{chars, is_utf8}
use Rattle.tree_code.specs.Cost.{cost}
use Rattle.cel_measures.specs.Measures.{deepest, need, nodes}
use Rattle.std.specs.Fmt.{digits}
use Rattle.policy_glue.specs.Documents.{document_of}
use Rattle.std.specs.Char.{encode_utf8}
use Rattle.cel_macros.specs.CoreTree.{expanded}
use Rattle.cel_macros.specs.Functions.{function_named, test_named}
use Rattle.policy_glue.specs.Reading.{has_head, has_spec_form, has_top_form, named_keys, named_parts, policy_in, policy_of, reason_in, spec_keys, spec_parts, top_keys, validation_keys, validation_parts}
use Rattle.cel_macros.specs.Macros.{is_has, is_map, is_variables, macro_named}
use Rattle.cel_reader.specs.Words.{is_reserved, role_of}
use Rattle.cel_macros.specs.Environment.{is_root, name_value, variable_value}
use Rattle.cel_macros.specs.MacroFault.{macro_fault}
use Rattle.cel_macros.specs.Meaning.{meaning}
use Rattle.cel_types.specs.Scope.{name_type, variable_type}
use Rattle.policy_glue.specs.Budget.{policy_cost}
use Rattle.policy_glue.specs.Limits.{policy_nodes, policy_texts}
use Rattle.tree_code.specs.Code.Expressions.{texts_of}
use Rattle.cel_types.specs.Typing.{typing}
use Rattle.serde_json.proofs.OnLiterals.{serde_json_on_literals}

-- what is unfolded to compute the policy in a literal document
unfoldable pub documents_on_literals : ⊤
unfolding serde_json_on_literals chars encode_utf8 is_utf8 document_of policy_in policy_of has_head has_top_form has_spec_form top_keys spec_keys spec_parts named_keys named_parts validation_keys validation_parts reason_in role_of is_reserved
documents_on_literals = tt

-- what is unfolded to compute the type, the size and the cost of a literal policy, and the text of an error
unfoldable pub policies_on_literals : ⊤
unfolding digits expanded name_value variable_value function_named test_named macro_named is_map is_has is_variables meaning nodes texts_of cost policy_cost policy_nodes policy_texts is_root macro_fault name_type variable_type typing deepest need
policies_on_literals = tt
