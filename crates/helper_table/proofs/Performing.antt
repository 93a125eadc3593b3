-- The store after an effect was carried out.
use Rattle.helper_table.proofs.Prelude.{◌≡◌, ◌+◌, ◌≤◌, ℕ, List, true, arith, Err, nat_le, AllocError, charge_limit, ValueOrError, RowOutcome, Plain, Named, Refused, outcome_by, TakesEffect, Placement}

-- the outcome of an effect adds what the effect states
abbrev pub Adds : RowOutcome → ℕ → Type 0
Adds (Plain w a) added = a ≡ added
Adds (Named v a) added = a ≡ added
Adds (Refused f) added = ⊥

pub effect_adds : (vs : List ValueOrError) (a : Placement) (added : ℕ) → Adds (outcome_by vs a added) added
effect_adds vs a added = grind arith

module _ (old new : List ValueOrError) (charge added : ℕ) where
  fits : (a : ℕ) → a ≡ added → charge + (1 + added) ≤ charge_limit → nat_le (charge + (1 + a)) charge_limit ≡ true
  fits a same within = grind arith

  -- after a failed allocation
  pub kept : (o : RowOutcome) (e : AllocError) → Adds o added → TakesEffect o (Err e) old new → new ≡ old
  kept o e same does = grind arith
