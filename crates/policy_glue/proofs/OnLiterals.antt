-- The definitions that examples worked by hand unfold.
use Rattle.policy_glue.proofs.Prelude.{⊤, is_reserved, role_of, document_of, has_head, has_spec_form, has_top_form, named_keys, named_parts, policy_in, policy_of, reason_in, validation_keys, validation_parts, spec_keys, spec_parts, top_keys, response_of, response_text, review_tree, expanded, name_value, variable_value, is_root, function_named, test_named, is_has, is_map, is_variables, macro_named, meaning, nodes, deepest, need, texts_of, code_of, cost, policy_cost, policy_nodes, policy_texts, macro_fault, name_type, variable_type, typing, expression_judged, decision_of, verdict_of, spelled, candidate_at, arithmetic_at, branch_at, jump_at, memory_at, wide_at, null_values, start_state, insn_at, alu_row, call_row, branch_row, call_local_row, exit_row, jump_row, load_row, load_wide_row, store_row, constants_of, read_of, write_of, start_memory, word_in, row_of, kind_row, text_const_row, of_number, next_state, alu64_of, operated, holds_of, state_after, first_path, whole_code, with_lists_of, condition_tail, conditions_code, message_tail, outcome_tail, policy_code, denial_code, validations_code, program_of}
use Rattle.std.specs.Char.{encode_utf8}
use Rattle.std.specs.Str.{chars, is_utf8}
use Rattle.serde_json.proofs.OnLiterals.{serde_json_on_literals}
use Rattle.std.specs.Fmt.{digits}

-- what is unfolded to compute the policy in a literal document, and the text of a response
unfoldable pub documents_on_literals : ⊤
unfolding serde_json_on_literals chars encode_utf8 is_utf8 document_of policy_in policy_of has_head has_top_form has_spec_form top_keys spec_keys spec_parts named_keys named_parts validation_keys validation_parts reason_in role_of is_reserved digits response_of response_text review_tree
documents_on_literals = tt

-- what is unfolded to compute what a literal policy decides or why it is refused
unfoldable pub policies_on_literals : ⊤
unfolding expanded name_value variable_value function_named test_named macro_named is_map is_has is_variables meaning nodes texts_of cost policy_cost policy_nodes policy_texts digits is_root macro_fault name_type variable_type typing deepest need expression_judged decision_of verdict_of
policies_on_literals = tt

-- what is unfolded to compute a run of its program
unfoldable pub programs_on_literals : ⊤
unfolding encode_utf8 chars is_utf8 constants_of spelled candidate_at arithmetic_at branch_at jump_at memory_at wide_at null_values start_state insn_at alu_row branch_row call_row call_local_row exit_row jump_row load_row load_wide_row store_row read_of write_of start_memory word_in row_of kind_row text_const_row of_number next_state alu64_of operated holds_of state_after expanded is_variables need code_of texts_of first_path with_lists_of whole_code policy_texts condition_tail conditions_code message_tail outcome_tail policy_code denial_code validations_code program_of
programs_on_literals = tt
