-- Proof obligations of `Region::zeroed` (src/region.rt).
use Rattle.guest_memory.proofs.Prelude.{rules}
use Rattle.guest_memory.proofs.PagedBytes.{joined_zeros}
use Rattle.guest_memory.proofs.region.Region.zeroed.Goals as goal

pub returns : goal.returns
returns g c = joined_zeros _ _ c.from_fn-pages.ensures.items.long (λ i e inside. let made = c.from_fn-pages.ensures.items.at i e inside in search rules)
