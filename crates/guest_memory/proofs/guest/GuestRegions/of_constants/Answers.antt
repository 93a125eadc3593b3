-- Proof obligations of `GuestRegions::of_constants` (src/guest.rt).
use Rattle.guest_memory.proofs.Prelude.{ap, ◌∙◌, start_memory}
use Rattle.guest_memory.proofs.guest.GuestRegions.of_constants.Goals as goal

pub returns : goal.returns
returns c = c.of_shared.ensures ∙ ap start_memory c.in_ok-constants.ensures
