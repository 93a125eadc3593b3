-- Proof obligations of `naming::conditions_name_namespace`.
use Rattle.policy_glue.proofs.Prelude.{Ok, List, map, refl, sym, ap, subst, ◌∙◌, NamedExpression, Policy, named_view}
use Rattle.policy_glue.proofs.Named.{compiled_reads}
use Rattle.policy_glue.specs.Naming.{EachReads}
use Rattle.policy_glue.proofs.naming.conditions_name_namespace.Goals as goal

pub returns : goal.returns
returns c = λ t compiles.
    c.one_expression_names.ensures t.conditions
    (subst (λ (ns : List NamedExpression). EachReads ns t.conditions)
    (ap (λ (p : Policy). p.conditions) (sym c.parts.ensures.parts) ∙ ap (map named_view) (sym c.as_slice.ensures.value))
    (compiled_reads c.args.policy.now (Ok t) t compiles refl))
