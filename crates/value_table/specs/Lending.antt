-- Mutable borrows of chunks: what the owner holds when the borrow ends.
use Rattle.std.specs.Prelude.{ℕ, List, Result}
use Rattle.std.specs.Borrow.{Fml, RattleType, MutBor, LendsIfOk}
use Rattle.value_table.specs.contracts.chunks.Chunks as chunks
use Rattle.value_table.specs.contracts.sequence.Sequence as sequence
use Rattle.value_table.specs.contracts.cell.Cell as cell
use Rattle.value_table.specs.declared.cell.Cell.{Cell}

module _ (T : RattleType) where
  -- a sequence ends with the items that its chunks have at the end; after an error it is unchanged
  abbrev pub LendsChunks : {E : Type 0} → MutBor (List T.Denot) → Result (MutBor (List T.Denot × ℕ)) E → Fml
  LendsChunks b r = LendsIfOk (sequence.the_row T) (chunks.the_row T) b r (λ v. v.0) b.now

-- the cells of a heap end with the items that their chunks have at the end; after an error they are unchanged
abbrev pub LendsCells : {E : Type 0} → MutBor (List Cell) → Result (MutBor (List Cell × ℕ)) E → Fml
LendsCells b r = LendsChunks cell.the_row b r
