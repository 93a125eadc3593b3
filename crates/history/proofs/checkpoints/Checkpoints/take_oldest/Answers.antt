-- Proof obligations of `Checkpoints::take_oldest` (src/checkpoints.rt).
use Rattle.history.proofs.Prelude.{ap, ◌∙◌, IsCheckpoint}
use Rattle.history.proofs.Places.{rest_all, rest_within}
use Rattle.history.proofs.checkpoints.Checkpoints.take_oldest.Goals as goal

pub invariant_of-self-2 : goal.invariant_of-self-2
invariant_of-self-2 g c =
    (c.self.invariant.0, ap (λ b. b.capacity) c.pop_front.ensures.items ∙ c.self.invariant.1, rest_all (IsCheckpoint g.E.Emulator.state (g.E.Emulator.state c.self.inside.start.machine)) _ _ (ap (λ b. b.items) c.pop_front.ensures.items) c.self.invariant.2, rest_within _ _ _ (ap (λ b. b.items) c.pop_front.ensures.items) c.self.invariant.3)
