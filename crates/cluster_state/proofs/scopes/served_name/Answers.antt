-- Proof obligations of `scopes::served_name`.
use Rattle.cluster_state.proofs.Prelude.{◌∙◌, ap, option_map, sym, text_of, view}
use Rattle.cluster_state.specs.Serving.{is_true}
use Rattle.cluster_state.proofs.Scoped.{name_served, not_served, seen_name}
use Rattle.cluster_state.proofs.scopes.served_name.Goals as goal

pub returns-then-is_true : goal.returns-then-is_true
returns-then-is_true c v =
    seen_name c.text.result v
    ∙ name_served (view c.args.version.now) v (option_map (λ s. s.now) c.text.result) (c.text.ensures ∙ ap text_of c.field-name.ensures)
    (sym (ap is_true c.field-served.ensures) ∙ sym c.is_true.ensures ∙ c.if-is_true.true)

pub returns-else-is_true : goal.returns-else-is_true
returns-else-is_true c v = not_served (view c.args.version.now) v (sym (ap is_true c.field-served.ensures) ∙ sym c.is_true.ensures ∙ c.if-is_true.false)
