-- The depth of a list or a map with one more part.
use Rattle.helper_table.proofs.Prelude.{◌≡◌, ◌+◌, ℕ, max, Option, Some, Bool, true, arith, is_some, nat_le, if◌then◌else◌, F8, push_depth, pushed, depth_of, Value, ValueOrError, depth_at, depth_limit, grown, Plain, Refused, named}

pub push_depth_at : (l x : Option ValueOrError) (w : Value) → pushed l x ≡ Some w → depth_of w ≡ max (depth_at l) (1 + depth_at x)
push_depth_at l x w e = grind (arith, push_depth)

-- a value with one more part, and its depth
pub record Grows (v : Option Value) (depth : ℕ) : Type 0 where
  pub is : (w : Value) → v ≡ Some w → depth_of w ≡ depth

-- an effect that adds to a list or a map, if possible and within the depth limit
pub grows : (placed said : Option Value) (depth : ℕ) (can within : Bool) → ((w : Value) → said ≡ Some w → placed ≡ Some w)
    → (is_some said ≡ true → Grows said depth) → can ≡ is_some said → within ≡ nat_le depth depth_limit
    → (if can then if within then named placed 1 else Refused F8 else Plain 0 1) ≡ grown said
grows placed said depth can within p g e f = grind arith
