-- The code of each macro gives its fold; `all` and `exists` leave the loop at an item that decides.
-- The laws of `specs/Gives/Folds`.
use Rattle.expression_code.proofs.Prelude.{◌≡◌, ℕ, ◌+◌, ◌-◌, ◌<◌, ◌≤◌, List, ◌++◌, Option, Some, Bool, true, false, refl, ap, ◌∙◌, subst, arith, ℤ, Insn, Value, ValueOrError, value, boolean, Macro, Exists, ExistsOne, Filter, Map, end_of, folded, start_of, step_of, Truth, Yes, and_of, chosen, or_of, truth, range_of, absorbing_turn, exists_one_end, exists_one_turn, filter_turn, first_empty, first_false, first_true, macro_code, map_turn, false_ref, true_ref, Context, Evaluates, RunContext, IsItem, MacroGives, charge_budget, holds_too_deep, is_too_deep, items_spent, items_visits, step_budget, fold_code, fold_of, with_item, size, fold_limit}
use Rattle.expression_code.proofs.Sites.{site_at, in_frame, budget}
use Rattle.cel_macros.specs.declared.macros.Macro.TheVariants.{All}
use Rattle.expression_code.proofs.Logic.{Absorbing, and_absorbs, is_answer, is_decides, or_absorbs}
use Rattle.expression_code.proofs.Folds.Tails.{filter_turns, goes_on, leaves, map_turns, once_ends, once_turns}
use Rattle.expression_code.proofs.Folds.Budgets.{chosen_shallow, deep_excused, empty_gives, false_gives, fold_within, gives_within, is_shallow, push_shallow, true_gives}
use Rattle.expression_code.proofs.Folds.Once.{once_end, once_folds, once_step}
use Rattle.expression_code.proofs.Folds.Turn.{TailRuns, turn_gives}
use Rattle.expression_code.proofs.Operators.{result_gives}
use Rattle.expression_code.proofs.Pieces.{size-append}
use Rattle.expression_code.proofs.Runs.{to_place}
use Rattle.expression_code.proofs.Loops.{fold_size, loop_size}

-- a macro whose result is its fold
folds : (m : Macro) (f : Value → ValueOrError) (o : Option (List Value)) → ((a : ValueOrError) → end_of m a ≡ a) → fold_of (step_of m f) (start_of m) o ≡ folded m f o
folds m f o same = grind arith

-- an item that a filter keeps
kept_deep : (v : Value) (t : Truth) → t ≡ Yes → is_too_deep (value v) ≡ true → chosen t (is_too_deep (value v)) false false ≡ true
kept_deep v t is deep = ap (λ (u : Truth). chosen u (is_too_deep (value v)) false false) is ∙ deep

module _ (s : RunContext) (p k depth : ℕ) (range part : List Insn) (c : Context) (n : List ℕ) (r : ValueOrError) (f : Value → ValueOrError) (w x : ℕ) (visits spent : Value → ℕ) (low : k < fold_limit) (gives_range : Evaluates s p range c depth k r (step_budget w) (charge_budget x)) (gives_part : (v : Value) → IsItem r v → Evaluates s (p + size range + 17) part (with_item c k n v) depth (k + 5) (f v) (step_budget (visits v)) (charge_budget (spent v))) where
  abbrev steps : ℕ
  steps = step_budget (1 + w + items_visits visits (range_of r))

  abbrev charge : ℕ
  charge = charge_budget (9 + x + items_spent spent (range_of r))

  -- the slots of the first result and of a turn's tail
  abbrev start_at : ℕ
  start_at = p + size range + 9

  abbrev tail_at : ℕ
  tail_at = p + size range + 17 + size part

  -- a loop whose turn is the part followed by a tail
  module _ (first tail : List Insn) (start : ValueOrError) (g : ValueOrError → Value → ValueOrError) (is_last is_fine : ValueOrError → Bool) (more cost : ℕ) (one : size first ≡ 1) (not_last : is_last start ≡ false) (fine : is_fine start ≡ true) (gives_first : Evaluates s start_at first c depth (k + 3) start 1 1) (tails : (items : List Value) → range_of r ≡ Some items → TailRuns (site_at s tail_at (in_frame c depth k)) (p + size (fold_code k range first (part ++ tail))) tail items f g is_last is_fine (λ v. more) (λ v. cost)) where
    -- three steps are left for a piece after it
    loop_gives : more ≤ 8 → cost ≤ 8 → Evaluates s p (fold_code k range first (part ++ tail)) c depth k (fold_of g start (range_of r)) (steps - 3) charge
    loop_gives few cheap =
        fold_within s p k depth range first (part ++ tail) c r start g is_last is_fine w x visits spent (λ v. step_budget (visits v) + more) (λ v. charge_budget (spent v) + cost) low not_last fine one gives_range gives_first
        (λ items is. turn_gives s (p + size range + 17) _ part tail c depth k n items f g is_last is_fine (λ v. step_budget (visits v)) (λ v. charge_budget (spent v)) (λ v. more) (λ v. cost) low
        (λ i v item. gives_part v (record { items = items; place = i; range_is = is; item_is = item }))
        (tails items is))
        (λ v. omega arith) (λ v. omega arith)

    -- the loop is the whole macro
    whole_gives : (z : ValueOrError) → fold_of g start (range_of r) ≡ z → more ≤ 8 → cost ≤ 8 → Evaluates s p (fold_code k range first (part ++ tail)) c depth k z steps charge
    whole_gives z is few cheap = grind (arith, gives_within, loop_gives)

  -- ---- an operator for which one truth decides

  module _ (decides other : ℤ) (g : ValueOrError → ValueOrError → ValueOrError) (op : Absorbing decides other g) where
    absorbing_tail : (items : List Value) (end : ℕ) → tail_at + 10 ≡ end
        → TailRuns (site_at s tail_at (in_frame c depth k)) end (absorbing_turn decides other k) items f (λ acc v. g acc (f v)) (λ acc. is_decides (op.side acc)) (is_answer op) (λ v. 4) (λ v. 0)
    absorbing_tail items end place = grind (arith, goes_on, leaves, to_place)

    absorbing_gives : (first : List Insn) (start z : ValueOrError) → size first ≡ 1 → is_decides (op.side start) ≡ false → is_answer op start ≡ true
        → Evaluates s start_at first c depth (k + 3) start 1 1
        → fold_of (λ acc v. g acc (f v)) start (range_of r) ≡ z → Evaluates s p (fold_code k range first (part ++ absorbing_turn decides other k)) c depth k z steps charge
    absorbing_gives first start z one undecided answers gives_first is =
        let tail = absorbing_turn decides other k in
        let place : tail_at + 10 ≡ p + size (fold_code k range first (part ++ tail)) = omega (arith, fold_size, loop_size, size-append part tail) in
        whole_gives first tail start (λ acc v. g acc (f v)) (λ acc. is_decides (op.side acc)) (is_answer op) 4 0 one undecided answers gives_first (λ items in_range. absorbing_tail items _ place) z is (omega arith) (omega arith)

  -- ---- `exists_one`

  once_tail : (items : List Value) (end : ℕ) → TailRuns (site_at s tail_at (in_frame c depth k)) end (exists_one_turn k) items f (λ acc v. once_step acc (f v)) (λ a. false) (λ a. true) (λ v. 8) (λ v. 0)
  unfolding exists_one_turn
  once_tail items end = grind (arith, goes_on, once_turns, leaves)

  once_gives : Evaluates s p (macro_code ExistsOne k range part) c depth k (folded ExistsOne f (range_of r)) steps charge
  once_gives =
      let loop = fold_code k range first_false (part ++ exists_one_turn k) in
      let once = fold_of (λ acc v. once_step acc (f v)) (value (boolean false)) (range_of r) in
      subst (λ (y : ValueOrError). Evaluates s p (loop ++ exists_one_end) c depth k y steps charge) (once_folds f (range_of r))
      (gives_within s p _ c depth k (once_end once) (steps - 3 + 3) (charge + 0) steps charge (omega arith) (omega arith)
      (result_gives (site_at s p (in_frame c depth k)) loop exists_one_end once (once_end once) (budget (steps - 3) charge) (budget 3 0)
      (loop_gives first_false (exists_one_turn k) (value (boolean false)) (λ acc v. once_step acc (f v)) (λ a. false) (λ a. true) 8 0 refl refl refl (false_gives s start_at c depth (k + 3) (omega arith)) (λ items is. once_tail items _) (omega arith) (omega arith))
      (record { runs = λ b has fits named. once_ends s c depth k (p + size loop) b fits once has named })))

  -- ---- `map` and `filter`

  map_tail : (items : List Value) (end : ℕ) → range_of r ≡ Some items → ((v : Value) → IsItem r v → is_too_deep (f v) ≡ true → s.is_deep ≡ true)
      → TailRuns (site_at s tail_at (in_frame c depth k)) end (map_turn k) items f (step_of Map f) (λ a. false) (is_shallow s.is_deep) (λ v. 4) (λ v. 2)
  map_tail items end is may = record {
    goes_on = λ b acc i v item fine has at not_last on. map_turns s c depth k tail_at low b at.outer at.fits acc (f v) has at.part_is at.so_far (deep_excused s.is_deep acc (f v) (may v (record { items = items; place = i; range_is = is; item_is = item })) fine);
    leaves = λ b acc i v item fine has at not_last ends. absurd (cc);
    last = λ acc v e. absurd (cc);
    fine = λ acc i v item fine. push_shallow s.is_deep acc (f v) (may v (record { items = items; place = i; range_is = is; item_is = item })) fine;
  }

  filter_tail : (items : List Value) (end : ℕ) → range_of r ≡ Some items → ((v : Value) → IsItem r v → holds_too_deep Filter v (f v) ≡ true → s.is_deep ≡ true) → TailRuns (site_at s tail_at (in_frame c depth k)) end (filter_turn k) items f (step_of Filter f) (λ a. false) (is_shallow s.is_deep) (λ v. 7) (λ v. 2)
  unfolding filter_turn
  filter_tail items end is may =
      let deep : (v : Value) → IsItem r v → truth (f v) ≡ Yes → is_too_deep (value v) ≡ true → s.is_deep ≡ true = λ v inside yes e. may v inside (kept_deep v (truth (f v)) yes e) in
      record {
        goes_on = λ b acc i v item fine has at not_last on. filter_turns s c depth k tail_at low b at.outer at.fits acc (value v) has at.so_far at.item (f v) (λ yes above. deep_excused s.is_deep acc (value v) (deep v (record { items = items; place = i; range_is = is; item_is = item }) yes) fine above) at.part_is;
        leaves = λ b acc i v item fine has at not_last ends. absurd (cc);
        last = λ acc v e. absurd (cc);
        fine = λ acc i v item fine. chosen_shallow s.is_deep (truth (f v)) acc (value v) (deep v (record { items = items; place = i; range_is = is; item_is = item })) fine;
      }

  -- ---- all macros

  by_macro : (m : Macro) → ((v : Value) → IsItem r v → holds_too_deep m v (f v) ≡ true → s.is_deep ≡ true)
      → Evaluates s p (macro_code m k range part) c depth k (folded m f (range_of r)) steps charge
  unfolding and_absorbs or_absorbs
  by_macro All may = absorbing_gives false_ref true_ref and_of and_absorbs first_true (start_of All) _ refl refl refl (true_gives s start_at c depth (k + 3) (omega arith)) (folds All f (range_of r) (λ a. refl))
  by_macro Exists may = absorbing_gives true_ref false_ref or_of or_absorbs first_false (start_of Exists) _ refl refl refl (false_gives s start_at c depth (k + 3) (omega arith)) (folds Exists f (range_of r) (λ a. refl))
  by_macro ExistsOne may = once_gives
  by_macro Map may =
      whole_gives first_empty (map_turn k) (start_of Map) (step_of Map f) (λ a. false) (is_shallow s.is_deep) 4 2 refl refl (grind arith) (empty_gives s start_at c depth (k + 3) (omega arith)) (λ items is. map_tail items _ is may) _ (folds Map f (range_of r) (λ a. refl)) (omega arith) (omega arith)
  by_macro Filter may =
      whole_gives first_empty (filter_turn k) (start_of Filter) (step_of Filter f) (λ a. false) (is_shallow s.is_deep) 7 2 refl refl (grind arith) (empty_gives s start_at c depth (k + 3) (omega arith)) (λ items is. filter_tail items _ is may) _ (folds Filter f (range_of r) (λ a. refl)) (omega arith) (omega arith)

pub macro_gives : MacroGives
macro_gives m s p k depth range part c n r f w x visits spent low gives_range gives_part may = by_macro s p k depth range part c n r f w x visits spent low gives_range gives_part m may
