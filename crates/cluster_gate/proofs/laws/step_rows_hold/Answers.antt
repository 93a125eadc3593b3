-- Proof obligations of `laws::step_rows_hold`.
use Rattle.cluster_gate.proofs.Prelude.{refl}
use Rattle.cluster_response.proofs.OnLiterals.{answers_on_literals}
use Rattle.cluster_gate.specs.Dispatch.{no_steps, denied, not_known, blocked, found, refused, at_end, no_bindings, next_binding, last_binding}
use Rattle.cluster_gate.proofs.laws.step_rows_hold.Goals as goal

pub returns-clause-steps : goal.returns-clause-steps
returns-clause-steps c = record {
  no_steps = no_steps;
  two_params = found refl (found refl no_steps);
  denial_then_refusal = found refl not_known;
  error_then_refusal = denied (refused refl refl);
  refusal_before_denial = refused refl refl;
  unknown_before_error = not_known;
  blocked_before_error = blocked;
  next_binding_after_refusal = next_binding (refused refl refl) (next_binding (found refl no_steps) no_bindings);
  next_binding_after_unknown = next_binding not_known (next_binding no_steps (next_binding (found refl no_steps) no_bindings));
  other_params_of_binding = next_binding (refused refl refl) (next_binding (found refl no_steps) no_bindings);
  next_binding_after_reads = next_binding (refused refl refl) (next_binding (found refl no_steps) no_bindings);
  not_found_after_refusal = next_binding (refused refl refl) (last_binding at_end);
  not_found_before_denial = at_end;
  not_found_after_error = denied at_end;
}

pub returns-clause-answers : goal.returns-clause-answers
unfolding answers_on_literals
returns-clause-answers c = record {
  first_params = refl;
  denial_before_refusal = refl;
  refusal_before_denial_of_another = refl;
  no_labels = refl;
  params_of_a_node = refl;
}
