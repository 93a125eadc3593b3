-- Proofs of `binding::binding_parts`: the result meets the contract.

use Rattle.cluster_state.proofs.Prelude.{Err, ◌∙◌, actions_of, ap, binding_parts, if_text, match_resources_of, param_ref_of, subst, sym, text_of, view}
use Rattle.cluster_state.specs.Bindings.{ReadsBinding}
use Rattle.cluster_state.proofs.Parts.{binding_whole, params_refused, resources_refused}
use Rattle.cluster_state.proofs.binding.binding_parts.Goals as goal

pub returns-in-Err-match_resources : goal.returns-in-Err-match_resources
returns-in-Err-match_resources c = subst (λ e. ReadsBinding (binding_parts c.args.name.now (view c.args.value.now)) (Err e)) (sym c.in_part-in-Err-match_resources.ensures)
    (resources_refused c.args.name.now (view c.args.value.now) _ _ _ c.in-Err-match_resources.error
    (ap (λ o. if_text (text_of o)) (sym c.field.ensures) ∙ ap if_text (sym c.text.ensures) ∙ sym c.in-Some.ensures)
    (ap actions_of (sym c.field-2.ensures) ∙ c.in-Ok.ensures)
    c.field-3.ensures c.in-Err-match_resources.ensures)

pub returns-in-Ok-param_ref : goal.returns-in-Ok-param_ref
returns-in-Ok-param_ref c =
    binding_whole _ _ _ _ _ _
    (ap (λ o. if_text (text_of o)) (sym c.field.ensures) ∙ ap if_text (sym c.text.ensures) ∙ sym c.in-Some.ensures)
    (ap actions_of (sym c.field-2.ensures) ∙ c.in-Ok.ensures)
    (ap match_resources_of (sym c.field-3.ensures) ∙ c.in-Ok-match_resources.ensures)
    (ap param_ref_of (sym c.field-4.ensures) ∙ c.in-Ok-param_ref.ensures)

pub returns-in-Err-param_ref : goal.returns-in-Err-param_ref
returns-in-Err-param_ref c = subst (λ e. ReadsBinding (binding_parts c.args.name.now (view c.args.value.now)) (Err e)) (sym c.in_part-in-Err-param_ref.ensures)
    (params_refused c.args.name.now (view c.args.value.now) _ _ _ _ c.in-Err-param_ref.error
    (ap (λ o. if_text (text_of o)) (sym c.field.ensures) ∙ ap if_text (sym c.text.ensures) ∙ sym c.in-Some.ensures)
    (ap actions_of (sym c.field-2.ensures) ∙ c.in-Ok.ensures)
    (ap match_resources_of (sym c.field-3.ensures) ∙ c.in-Ok-match_resources.ensures)
    c.field-4.ensures c.in-Err-param_ref.ensures)
