-- The costs of loops are within the budgets of macros; the costs of the first results; and the depth of the list that
-- a macro builds.
-- For `Folds/All` and `Folds/MapsWhere`.
use Rattle.expression_code.proofs.Prelude.{ℕ, ◌+◌, ◌*◌, ◌≤◌, List, [], ◌∷◌, Option, arith, ◌≡◌, ◌-◌, ◌<◌, Some, Bool, true, false, subst, refl, Insn, Value, ValueOrError, value, boolean, list, no_items, Context, Evaluates, RunContext, each_spent, each_visits, items_spent, items_visits, charge_budget, step_budget, is_too_deep, fold_charge, fold_steps, loop_charge, loop_steps, TurnGives, fold_code, fold_of, range_of, size, pos, nat_le, ◌||◌, first_empty, first_false, first_true, depth_limit, result_depth, pushed, when_true, Truth, Yes, nat_tests, part_steps_per_visit, part_charge_per_unit, fold_limit, frame_words}
use Rattle.expression_code.proofs.Sites.{in_frame}
use Rattle.expression_code.proofs.Runs.{looser, done}
use Rattle.expression_code.proofs.Loops.{fold_gives}
use Rattle.expression_code.proofs.HelperAnswers.{helpers}
use Rattle.expression_code.proofs.Listings.{ask, begins}
use Rattle.expression_code.proofs.Operators.{shows_placed}
use Rattle.expression_code.proofs.Leaves.{leaves_give}
use Rattle.expression_code.proofs.Lists.{pushed_depth}

-- code within larger budgets
pub gives_within : (s : RunContext) (p : ℕ) (piece : List Insn) (c : Context) (depth base : ℕ) (x : ValueOrError) (n1 x1 n2 x2 : ℕ) → n1 ≤ n2 → x1 ≤ x2
    → Evaluates s p piece c depth base x n1 x1 → Evaluates s p piece c depth base x n2 x2
gives_within s p piece c depth base x n1 x1 n2 x2 steps charge gives = record { runs = λ b has fits. looser s n2 x2 steps charge (gives.runs b has fits) }

-- the steps that a turn leaves of its budget: 8 for the loop, and more
abbrev pub turn_reserve : ℕ
turn_reserve = 11

module _ (steps visits : Value → ℕ) (turn : (v : Value) → steps v + turn_reserve ≤ part_steps_per_visit * (1 + visits v)) where
  loop_within : (vs : List Value) → loop_steps steps vs ≤ 4 + part_steps_per_visit * each_visits visits vs
  loop_within [] = omega arith
  loop_within (v ∷ vs) = grind (arith, loop_within vs)

  pub steps_within : (o : Option (List Value)) → fold_steps steps o ≤ 4 + part_steps_per_visit * items_visits visits o
  steps_within o = grind (arith, loop_within)

module _ (charge spent : Value → ℕ) (turn : (v : Value) → charge v + 1 ≤ part_charge_per_unit * (8 + spent v)) where
  loop_paid : (vs : List Value) → loop_charge charge vs ≤ part_charge_per_unit * each_spent spent vs
  loop_paid [] = omega arith
  loop_paid (v ∷ vs) = grind (arith, loop_paid vs)

  pub charge_within : (o : Option (List Value)) → fold_charge charge o ≤ part_charge_per_unit * items_spent spent o
  charge_within o = grind (arith, loop_paid)

-- ---- a fold within the budgets of a macro

-- three steps are left for a piece after the loop
pub fold_within : (s : RunContext) (p k depth : ℕ) (range first turn : List Insn) (c : Context) (r acc : ValueOrError) (g : ValueOrError → Value → ValueOrError) (is_last is_fine : ValueOrError → Bool) (w x : ℕ) (visits spent steps charge : Value → ℕ)
    → k < fold_limit → is_last acc ≡ false → is_fine acc ≡ true → size first ≡ 1
    → Evaluates s p range c depth k r (step_budget w) (charge_budget x)
    → Evaluates s (p + size range + 9) first c depth (k + 3) acc 1 1
    → ((items : List Value) → range_of r ≡ Some items → TurnGives s (p + size range + 17) (p + size (fold_code k range first turn)) turn c depth k items g is_last is_fine steps charge)
    → ((v : Value) → steps v + turn_reserve ≤ part_steps_per_visit * (1 + visits v))
    → ((v : Value) → charge v + 1 ≤ part_charge_per_unit * (8 + spent v))
    → Evaluates s p (fold_code k range first turn) c depth k (fold_of g acc (range_of r)) (step_budget (1 + w + items_visits visits (range_of r)) - 3) (charge_budget (9 + x + items_spent spent (range_of r)))
fold_within s p k depth range first turn c r acc g is_last is_fine w x visits spent steps charge low not_last fine one gives_range gives_first turns few paid =
    let place : p + size range + 17 ≡ p + size range + 9 + size first + 7 = omega arith in
    let end = p + size (fold_code k range first turn) in
    let within = steps_within steps visits few (range_of r) in
    let cost = charge_within charge spent paid (range_of r) in
    gives_within s p (fold_code k range first turn) c depth k (fold_of g acc (range_of r)) _ _ (step_budget (1 + w + items_visits visits (range_of r)) - 3) (charge_budget (9 + x + items_spent spent (range_of r))) (omega arith) (omega arith)
    (fold_gives s p k depth (step_budget w) (charge_budget x) 1 1 range first turn c r acc g is_last is_fine steps charge low not_last fine gives_range gives_first (λ items is. subst (λ (i : ℕ). TurnGives s i end turn c depth k items g is_last is_fine steps charge) place (turns items is)))

-- ---- the results before the first item

module _ (s : RunContext) (p : ℕ) (c : Context) (depth base : ℕ) (low : base ≤ frame_words) where
  pub true_gives : Evaluates s p first_true c depth base (value (boolean true)) 1 1
  true_gives = gives_within s p first_true c depth base (value (boolean true)) 1 0 1 1 (omega arith) (omega arith) (leaves_give.truth s p c depth base true low)

  pub false_gives : Evaluates s p first_false c depth base (value (boolean false)) 1 1
  false_gives = gives_within s p first_false c depth base (value (boolean false)) 1 0 1 1 (omega arith) (omega arith) (leaves_give.truth s p c depth base false low)

  pub empty_gives : Evaluates s p first_empty c depth base (value (list no_items)) 1 1
  empty_gives = record {
    runs = λ b has fits.
        let place = helpers.list_new c.environment.roots b fits.values in
        begins has
        (ask has 0 refl place.answers (λ paid.
        (done s (p + 1) _ _ (shows_placed (in_frame c depth base) (pos 16) (value (list no_items)) 1 b b.registers low refl fits place paid))));
  }

-- ---- the depth of the list that a macro builds: it stays within its limit if no item to be kept is too deep

push_within : (acc x : ValueOrError) → result_depth acc ≤ depth_limit → result_depth x < depth_limit → result_depth (pushed acc x) ≤ depth_limit
push_within acc x a b = omega (arith, pushed_depth acc x)

-- the result so far is not deeper than a list may be, or depths are excused
abbrev pub is_shallow : Bool → ValueOrError → Bool
is_shallow deep acc = deep || nat_le (result_depth acc) depth_limit

-- one more item
pub push_shallow : (deep : Bool) (acc x : ValueOrError) → (is_too_deep x ≡ true → deep ≡ true) → is_shallow deep acc ≡ true
    → is_shallow deep (pushed acc x) ≡ true
push_shallow deep acc x may fine = grind (arith, nat_tests, push_within)

pub chosen_shallow : (deep : Bool) (t : Truth) (acc x : ValueOrError) → (t ≡ Yes → is_too_deep x ≡ true → deep ≡ true) → is_shallow deep acc ≡ true
    → is_shallow deep (when_true t (pushed acc x) acc) ≡ true
chosen_shallow deep t acc x may fine = grind (arith, nat_tests, push_within)

-- stopping for a depth is excused
pub deep_excused : (deep : Bool) (acc x : ValueOrError) → (is_too_deep x ≡ true → deep ≡ true) → is_shallow deep acc ≡ true
    → depth_limit < result_depth (pushed acc x) → deep ≡ true
deep_excused deep acc x may fine above = grind (arith, nat_tests, push_within)
