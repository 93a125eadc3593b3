-- Proof obligations of `scopes::served_kind`.
use Rattle.cluster_state.proofs.Prelude.{◌∙◌, ap, option_map, sym, text_of, view}
use Rattle.cluster_state.proofs.Scoped.{no_group, of_group}
use Rattle.cluster_state.proofs.scopes.served_kind.Goals as goal

pub returns-in-None : goal.returns-in-None
returns-in-None c k =
    no_group k (option_map (λ v. view v.now) c.args.spec) (sym (ap text_of c.field_of.ensures) ∙ sym c.in-None.ensures)

pub returns-in-Some : goal.returns-in-Some
returns-in-Some c k =
    c.named_kind.ensures k
    ∙ of_group k (option_map (λ v. view v.now) c.args.spec) c.in-Some.group.now (sym (ap text_of c.field_of.ensures) ∙ sym c.in-Some.ensures)
