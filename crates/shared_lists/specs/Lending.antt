-- Mutable borrows of vectors: what the owner holds when the borrow ends.
use Rattle.std.specs.Prelude.{◌≡◌, List, Result}
use Rattle.std.specs.Borrow.{Fml, RattleType, MutBor, LendsIfOk, LendsSoOk}
use Rattle.std.specs.contracts.alloc.Global as global
use Rattle.std.specs.contracts.vec.Vec as vec
use Rattle.std.specs.contracts.rc.Rc as rc
use Rattle.std.specs.contracts.impls.GlobalAllocator.TheImpl.{ghosts}
use Rattle.shared_lists.specs.contracts.backing.Backing.{the_row}

module _ (T : RattleType) where
  abbrev pub vec_row : RattleType
  vec_row = vec.the_row T global.the_row ghosts

  abbrev pub rc_row : RattleType
  rc_row = rc.the_row vec_row global.the_row ghosts

  -- the backing ends with the items that the vector has at the end; after an error it is unchanged
  abbrev pub LendsItems : {E : Type 0} → MutBor (List T.Denot) → Result (MutBor vec_row.Denot) E → Fml
  LendsItems b r = LendsIfOk (the_row T) vec_row b r (λ v. v.items) b.now

  -- an `Rc` ends with the items that the vector has at the end; after an error it is unchanged
  abbrev pub LendsOwned : {E : Type 0} → MutBor rc_row.Denot → Result (MutBor vec_row.Denot) E → Fml
  LendsOwned b r = LendsSoOk rc_row vec_row b r (λ n v. n.value ≡ v) (λ n. n.value.items ≡ b.now.value.items)
