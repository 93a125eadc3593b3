-- Loop invariant of `room::repeat`.

use Rattle.value_backings.proofs.Prelude.{◌≡◌, ◌+◌, ◌-◌, ◌++◌, vec_len, vec_capacity, slice_range}
use Rattle.value_backings.proofs.room.repeat.Given as goal

abbrev pub invariant-loop-place : goal.invariant-loop-place
invariant-loop-place g l = record {
  items : l.items.items ≡ l.initial.items.items ++ slice_range l.initial.items.items l.from l.place;
  len : vec_len l.items ≡ vec_len l.initial.items + (l.place - l.from);
  capacity : vec_capacity l.items ≡ vec_capacity l.initial.items;
}
