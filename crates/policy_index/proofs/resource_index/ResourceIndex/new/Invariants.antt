-- Loop invariants of `ResourceIndex::new`.
use Rattle.policy_index.proofs.Prelude.{◌≡◌, ℕ, List, answers}
use Rattle.policy_index.proofs.Marking.{answers_after}
use Rattle.policy_index.proofs.resource_index.ResourceIndex.new.Given as goal

abbrev pub invariant-loop-place : goal.invariant-loop-place
invariant-loop-place l = (x : List ℕ) → answers l.index x ≡ answers_after l.constraints l.place x
