-- Proof obligations of `GuestRegions::of_shared` (src/guest.rt).
use Rattle.guest_memory.proofs.Prelude.{refl}
use Rattle.guest_memory.proofs.Start.{started}
use Rattle.guest_memory.proofs.guest.GuestRegions.of_shared.Goals as goal

pub returns : goal.returns
returns c = started _ _ _ _ _ c.zeroed.ensures c.zeroed-2.ensures c.zeroed-3.ensures refl
