-- Macros, within the budgets of a part: a number of steps for each visit of a node or an item, and a charge for each
-- unit of cost, each less a reserve.
-- The code is listed in `Code/Folds`; proofs in `proofs/Folds` and `proofs/Loops`.
use Rattle.std.specs.Prelude.{◌≡◌, ℕ, ◌+◌, ◌-◌, ◌*◌, ◌<◌, nat_le, Bool, true, false, List, [], ◌∷◌, Option, Some, None, slice_get}
use Rattle.helper_table.specs.Building.{depth_limit}
use Rattle.insn_codec.specs.declared.insn.Insn.{Insn}
use Rattle.value_store.specs.Size.{result_depth}
use Rattle.value_store.specs.Value.{Value, ValueOrError, value}
use Rattle.cel_macros.specs.declared.macros.Macro.{Macro, TheVariants.All, TheVariants.Exists, TheVariants.ExistsOne, TheVariants.Filter, TheVariants.Map}
use Rattle.cel_macros.specs.FoldMeaning.{folded, folded_map}
use Rattle.cel_macros.specs.Logic.{Yes, chosen, truth}
use Rattle.cel_macros.specs.Macros.{range_of}
use Rattle.expression_code.specs.Limits.{part_steps_per_visit, part_charge_per_unit, fold_limit, budget_reserve}
use Rattle.expression_code.specs.Code.Folds.{macro_code, map_where_code}
use Rattle.expression_code.specs.Contexts.{Context, Evaluates}
use Rattle.expression_code.specs.Engine.{RunContext}
use Rattle.expression_code.specs.Loops.{with_item, slots_before_turn, turn_word}
use Rattle.expression_code.specs.Pieces.{size}

-- the steps allowed for this number of visits
abbrev pub step_budget : ℕ → ℕ
step_budget visits = part_steps_per_visit * visits - budget_reserve

-- the charge allowed for this cost
abbrev pub charge_budget : ℕ → ℕ
charge_budget spent = part_charge_per_unit * spent - budget_reserve

-- the visits of the items: one for each, and those of its part
abbrev pub each_visits : (Value → ℕ) → List Value → ℕ
each_visits visits [] = 0
each_visits visits (v ∷ vs) = 1 + visits v + each_visits visits vs

-- the visits of a range's items; none if the value is not a range
abbrev pub items_visits : (Value → ℕ) → Option (List Value) → ℕ
items_visits visits (Some vs) = each_visits visits vs
items_visits visits None = 0

-- the cost of the items: eight for each, and that of its part
abbrev pub each_spent : (Value → ℕ) → List Value → ℕ
each_spent spent [] = 0
each_spent spent (v ∷ vs) = 8 + spent v + each_spent spent vs

-- the cost of a range's items; none if the value is not a range
abbrev pub items_spent : (Value → ℕ) → Option (List Value) → ℕ
items_spent spent (Some vs) = each_spent spent vs
items_spent spent None = 0

-- a list has a depth of at most 255, and is deeper than everything that it holds
abbrev pub is_too_deep : ValueOrError → Bool
is_too_deep x = nat_le depth_limit (result_depth x)

-- for item v, whose part gives x, the macro would hold a value that is too deep
abbrev pub holds_too_deep : Macro → Value → ValueOrError → Bool
holds_too_deep All v x = false
holds_too_deep Exists v x = false
holds_too_deep ExistsOne v x = false
holds_too_deep Filter v x = chosen (truth x) (is_too_deep (value v)) false false
holds_too_deep Map v x = is_too_deep x

-- v is one of the items of the range
pub record IsItem (range : ValueOrError) (v : Value) : Type 0 where
  pub items : List Value
  pub place : ℕ
  pub range_is : range_of range ≡ Some items
  pub item_is : slice_get items place ≡ Some v

-- the code of a range, and of a part that runs for each item, gives the macro's value
abbrev pub MacroGives : Type 0
MacroGives =
    (m : Macro) (s : RunContext) (p k depth : ℕ) (range part : List Insn) (c : Context) (n : List ℕ) (r : ValueOrError)
    (f : Value → ValueOrError) (w x : ℕ) (visits spent : Value → ℕ)
    → k < fold_limit
    → Evaluates s p range c depth k r (step_budget w) (charge_budget x)
    → ((v : Value) → IsItem r v
    → Evaluates s (p + size range + slots_before_turn) part (with_item c k n v) depth (turn_word k) (f v)
    (step_budget (visits v)) (charge_budget (spent v)))
    → ((v : Value) → IsItem r v → holds_too_deep m v (f v) ≡ true → s.is_deep ≡ true)
    → Evaluates s p (macro_code m k range part) c depth k (folded m f (range_of r)) (step_budget (1 + w + items_visits visits (range_of r)))
    (charge_budget (9 + x + items_spent spent (range_of r)))

-- `map` with a predicate, whose value for v is t v; the transform runs if that is true
abbrev pub MapWhereGives : Type 0
MapWhereGives =
    (s : RunContext) (p k depth : ℕ) (range predicate transform : List Insn) (c : Context) (n : List ℕ) (r : ValueOrError)
    (t f : Value → ValueOrError) (w x : ℕ) (visits spent visits_then spent_then : Value → ℕ)
    → k < fold_limit
    → Evaluates s p range c depth k r (step_budget w) (charge_budget x)
    → ((v : Value) → IsItem r v
    → Evaluates s (p + size range + slots_before_turn) predicate (with_item c k n v) depth (turn_word k) (t v) (step_budget (visits v))
    (charge_budget (spent v)))
    → ((v : Value) → IsItem r v → truth (t v) ≡ Yes
    → Evaluates s (p + size range + slots_before_turn + size predicate + 2) transform (with_item c k n v) depth (turn_word k) (f v)
    (step_budget (visits_then v)) (charge_budget (spent_then v)))
    → ((v : Value) → IsItem r v → truth (t v) ≡ Yes → is_too_deep (f v) ≡ true → s.is_deep ≡ true)
    → Evaluates s p (map_where_code k range predicate transform) c depth k (folded_map (λ v. truth (t v)) f (range_of r))
    (step_budget (1 + w + items_visits (λ v. visits v + chosen (truth (t v)) (visits_then v) 0 0) (range_of r)))
    (charge_budget (9 + x + items_spent (λ v. spent v + chosen (truth (t v)) (spent_then v) 0 0) (range_of r)))
