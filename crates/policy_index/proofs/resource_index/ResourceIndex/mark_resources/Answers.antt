-- Proof obligations of `ResourceIndex::mark_resources`.
use Rattle.policy_index.proofs.Prelude.{◌∙◌, answers, ap, marked, rules_have}
use Rattle.policy_index.proofs.Marking.{marked_twice}
use Rattle.policy_index.proofs.resource_index.ResourceIndex.mark_resources.Goals as goal

pub returns : goal.returns
returns c x =
    marked_twice c.args.place (rules_have c.args.resources.now.resource_rules.items x)
    (rules_have c.args.resources.now.exclude_resource_rules.items x) _ _ _
    (c.in_ok-mark_rules.ensures x ∙ ap (λ rs. marked (answers c.args.self.now x) c.args.place (rules_have rs x)) c.deref.ensures.value)
    (c.in_ok-mark_rules-2.ensures x ∙ ap (λ rs. marked (answers c.mark_rules.new.self x) c.args.place (rules_have rs x))
    c.deref-2.ensures.value)
