-- The cost of first uses in runs: it adds up over parts of a run, and more variables or calls never lower it.
use Rattle.expression_code.proofs.Prelude.{◌≡◌, ℕ, suc, ◌+◌, ◌≤◌, List, [], ◌∷◌, ◌++◌, length, Bool, true, refl, arith, nat_eq, if◌then◌else◌, eq-eqb, eqb-true, word_in, Image, Frame, OwnBudgets, FirstUse, StayFilled, cost_where, first_uses, is_first_use, is_open, pending, total}
use Rattle.std.specs.Prelude.{map}

-- ---- sums

module _ (cost : FirstUse → ℕ) where
  cost-append : (test : ℕ → FirstUse → Bool) (i : ℕ) (vs more : List FirstUse)
      → cost_where test cost i (vs ++ more) ≡ cost_where test cost i vs + cost_where test cost (i + length vs) more
  unfolding cost_where
  cost-append test i [] more = grind arith
  cost-append test i (v ∷ vs) more = grind (arith, cost-append test (suc i) vs more)

  cost-less : (f g : ℕ → FirstUse → Bool) → ((i : ℕ) (v : FirstUse) → (if f i v then cost v else 0) ≤ (if g i v then cost v else 0))
      → (i : ℕ) (vs : List FirstUse) → cost_where f cost i vs ≤ cost_where g cost i vs
  unfolding cost_where
  cost-less f g le i [] = omega arith
  cost-less f g le i (v ∷ vs) = let here = le i v in let rest = cost-less f g le (suc i) vs in omega arith

  cost-both : (f g h : ℕ → FirstUse → Bool)
      → ((i : ℕ) (v : FirstUse) → (if f i v then cost v else 0) + (if g i v then cost v else 0) ≤ (if h i v then cost v else 0)) → (i : ℕ) (vs : List FirstUse)
      → cost_where f cost i vs + cost_where g cost i vs ≤ cost_where h cost i vs
  unfolding cost_where
  cost-both f g h le i [] = omega arith
  cost-both f g h le i (v ∷ vs) = let here = le i v in let rest = cost-both f g h le (suc i) vs in omega arith

  cost-total : (test : ℕ → FirstUse → Bool) → (i : ℕ) (vs : List FirstUse) → cost_where test cost i vs ≤ total (map cost vs)
  unfolding cost_where
  cost-total test i [] = omega arith
  cost-total test i (v ∷ vs) = grind (arith, cost-total test (suc i) vs)

-- ---- one variable

still_empty : (old new : List ℕ) → StayFilled old new → (i : ℕ) → nat_eq (word_in new i) 0 ≡ true → nat_eq (word_in old i) 0 ≡ true
still_empty old new stay i e = eq-eqb (word_in old i) 0 (stay i (eqb-true (word_in new i) 0 e))

-- ---- all variables

module _ (image : Image) (variables : List FirstUse) (cost : FirstUse → ℕ) where
  -- a variable that is first used in one part of a run is not first used in the next
  pub uses-join : (old between new : List ℕ) (calls : List Frame) → StayFilled old between → StayFilled between new
      → first_uses image variables cost old between [] + first_uses image variables cost between new calls ≤ first_uses image variables cost old new calls
  uses-join old between new calls first second = grind (arith, cost-both, still_empty)

  pub uses-more_calls : (old new : List ℕ) (f : Frame) (calls : List Frame)
      → first_uses image variables cost old new calls ≤ first_uses image variables cost old new (f ∷ calls)
  uses-more_calls old new f calls = grind (arith, cost-less)

  pub uses-pending : (old new : List ℕ) (calls : List Frame) → first_uses image variables cost old new calls ≤ pending variables cost old
  uses-pending old new calls = grind (arith, cost-less)

  pub pending-most : (scratch : List ℕ) → pending variables cost scratch ≤ total (map cost variables)
  pending-most scratch = cost-total cost _ 0 variables

  pub uses-most : (old new : List ℕ) (calls : List Frame) → first_uses image variables cost old new calls ≤ total (map cost variables)
  uses-most old new calls = cost-total cost _ 0 variables

  -- more variables never lower the cost
  pub uses-more : (more : List FirstUse) (old new : List ℕ) (calls : List Frame)
      → first_uses image variables cost old new calls ≤ first_uses image (variables ++ more) cost old new calls
  uses-more more old new calls = grind (arith, cost-append)

  -- the cost covers a variable after these that is first used
  pub uses-with : (v : FirstUse) (later : List FirstUse) (old new : List ℕ) (calls : List Frame)
      → is_first_use (word_in old (length variables)) (word_in new (length variables)) (is_open image v.routine calls) ≡ true
      → first_uses image variables cost old new calls + cost v ≤ first_uses image (variables ++ v ∷ later) cost old new calls
  unfolding cost_where
  uses-with v later old new calls is_first = grind (arith, cost-append)

-- ---- no first use

nothing_used : (image : Image) (cost : FirstUse → ℕ) (i : ℕ) (variables : List FirstUse) (scratch : List ℕ)
    → cost_where (λ j v. is_first_use (word_in scratch j) (word_in scratch j) (is_open image v.routine [])) cost i variables ≡ 0
unfolding cost_where
nothing_used image cost i [] scratch = refl
nothing_used image cost i (v ∷ vs) scratch = grind (arith, nothing_used image cost (suc i) vs scratch)

pub own_budgets : OwnBudgets
unfolding cost_where
own_budgets = record {
  unused_steps = λ s n b. omega (arith, nothing_used s.image (λ v. v.steps) 0 s.variables b.memory.scratch);
  unused_charge = λ s x b. omega (arith, nothing_used s.image (λ v. v.charge) 0 s.variables b.memory.scratch);
  steps = λ image deep n b scratch calls. omega arith;
  charge = λ image deep x b scratch calls. omega arith;
}

-- ---- a call that is open
