-- Loop invariants of `ResourceIndex::mark_patterns`.
use Rattle.policy_index.proofs.Prelude.{◌≡◌, ℕ, List, answers, drop, marked, patterns_have}
use Rattle.policy_index.proofs.resource_index.ResourceIndex.mark_patterns.Given as goal

abbrev pub invariant-loop-pattern : goal.invariant-loop-pattern
invariant-loop-pattern l = (x : List ℕ)
    → marked (answers l.self x) l.place (patterns_have (drop l.pattern-index l.patterns) x)
    ≡ marked (answers l.initial.self x) l.place (patterns_have l.patterns x)
