-- Proof obligations of `part_under` (src/lookups.rt).
use Rattle.helper_table.proofs.Prelude.{sym, ap, ◌∙◌, slice_get, entries_at, found}
use Rattle.helper_table.proofs.Maps.{part_is_value, part_is_there, no_value}
use Rattle.helper_table.proofs.Seeing.{worded}
use Rattle.helper_table.proofs.lookups.part_under.Goals as goal

pub returns-in-Some-clause-means : goal.returns-in-Some-clause-means
returns-in-Some-clause-means g c = rw (c.free.ensures.placement, c.free.ensures.added) (ap found (part_is_value _ _ _ c.in-Some.ensures))

pub returns-in-Some-clause-can : goal.returns-in-Some-clause-can
returns-in-Some-clause-can g c = rw c.free.ensures.placement (part_is_there _ _ _ c.in-Some.ensures)

pub returns-in-None-clause-means : goal.returns-in-None-clause-means
returns-in-None-clause-means g c =
    worded _ _ _ _ c.word.ensures.placement c.word.ensures.added
    ∙ sym (ap found (no_value c.args.key.now (entries_at (slice_get (g.V.ValueStore.values c.args.table.now) c.args.m)) c.in-None.ensures))
