-- Loop invariants of `ResourceIndex::mark_rules`.
use Rattle.policy_index.proofs.Prelude.{◌≡◌, ℕ, List, answers, drop, marked, rules_have}
use Rattle.policy_index.proofs.resource_index.ResourceIndex.mark_rules.Given as goal

abbrev pub invariant-loop-rule : goal.invariant-loop-rule
invariant-loop-rule l = (x : List ℕ)
    → marked (answers l.self x) l.place (rules_have (drop l.rule-index l.rules) x)
    ≡ marked (answers l.initial.self x) l.place (rules_have l.rules x)
