-- Proof obligations of `Region::copy` (src/region.rt).
use Rattle.guest_memory.proofs.PagedBytes.{joined_same}
use Rattle.guest_memory.proofs.region.Region.copy.Goals as goal

pub returns : goal.returns
returns g c = rw (← c.self.view_is) (joined_same _ _ c.in_ok-pages.ensures.cases.whole)
