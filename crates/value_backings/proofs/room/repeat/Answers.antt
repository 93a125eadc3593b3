-- Proofs of `room::repeat`: each turn of the loop keeps the invariant.

use Rattle.value_backings.proofs.Prelude.{◌≡◌, ℕ, ◌+◌, ◌-◌, ◌<◌, ◌≤◌, List, ◌++◌, ◌∷◌, [], slice_range, arith, append_assoc, length-drop, length, get_or, get_or_append_left, take_more, get_or-drop}
use Rattle.value_backings.proofs.room.repeat.Goals as goal

range_more : {A : Type 0} (xs : List A) (a b : ℕ) (x : A) → a ≤ b → b < length xs → x ≡ get_or xs b x → slice_range xs a (b + 1) ≡ slice_range xs a b ++ x ∷ []
range_more {A} xs a b x h lt is =
    let one : (b + 1) - a ≡ (b - a) + 1 = omega (arith, h) in
    let whole : a + (b - a) ≡ b = omega (arith, h) in
    grind (arith, length-drop, get_or-drop, take_more)

repeated : {A : Type 0} (xs ys zs : List A) (a b : ℕ) (x : A) → a ≤ b → b < length xs → ys ≡ xs ++ slice_range xs a b → x ≡ get_or ys b x
    → zs ≡ ys ++ x ∷ [] → zs ≡ xs ++ slice_range xs a (b + 1)
repeated xs ys zs a b x h lt e is f = grind (arith, get_or_append_left, slice_range, append_assoc, range_more)

pub loop-place-preserved : goal.loop-place-preserved
loop-place-preserved g c = grind (arith, repeated)
