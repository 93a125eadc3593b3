-- The cost of an evaluation, which bounds the steps and the charge of its code. Both sides of a logical operator
-- count, the chosen branch of a conditional, and every item of a macro's range.
use Rattle.std.specs.Prelude.{ℕ, ◌+◌, ◌*◌, length, nat_le, Bool, true, false, ◌||◌, List, [], ◌∷◌, Option, Some, ◌≡◌}
use Rattle.std.specs.Option.{option_map_or}
use Rattle.cel_reader.specs.Tree as tree
use Rattle.cel_reader.specs.Tree.{Tree, Trees, TreeEntries, no_trees, more_trees, no_entries, more_entries}
use Rattle.helper_table.specs.Building.{depth_limit}
use Rattle.value_store.specs.Value.{Value, ValueOrError, error, value}
use Rattle.value_store.specs.Size.{result_size, result_depth}
use Rattle.cel_macros.specs.declared.macros.Macro.{Macro, TheVariants.Filter, TheVariants.Map}
use Rattle.cel_macros.specs.Environment.{Environment, bind}
use Rattle.cel_macros.specs.Logic.{Truth, truth, chosen}
use Rattle.cel_macros.specs.Macros.{macro_named, is_map, is_has, is_variables, name_of, field_name, range_of}
use Rattle.cel_macros.specs.Meaning.{meaning}

-- the number of visited nodes and items; the sizes of the nodes' results and of the texts and field names; and
-- whether a list or map would hold a value that is too deep for it
pub record Cost : Type 0 where
  pub visits : ℕ
  pub sizes : ℕ
  pub is_deep : Bool

infixl 30 ◌and◌
-- the sum of two costs
abbrev pub ◌and◌ : Cost → Cost → Cost
a and b = record { visits = a.visits + b.visits; sizes = a.sizes + b.sizes; is_deep = a.is_deep || b.is_deep }

-- no cost
abbrev pub nothing : Cost
nothing = record { visits = 0; sizes = 0; is_deep = false }

-- a visited node with its result; the error has size 1
abbrev pub node : ValueOrError → Cost
node x = record { visits = 1; sizes = result_size x; is_deep = false }

-- a text literal or a field name
abbrev pub name_or_text : List ℕ → Cost
name_or_text s = record { visits = 0; sizes = 1 + length s; is_deep = false }

-- one visit, as of an item of a macro's range
abbrev pub one_visit : Cost
one_visit = record { visits = 1; sizes = 0; is_deep = false }

-- the value is put into a list or map: these have a depth of at most 255, and are deeper than all that they hold
abbrev pub kept : ValueOrError → Cost
kept x = record { visits = 0; sizes = 0; is_deep = nat_le depth_limit (result_depth x) }

-- the cost of a literal besides its node: the text of a text literal
abbrev pub literal_cost : tree.Literal → Cost
literal_cost (tree.text s) = name_or_text s
literal_cost _ = nothing

-- `variables.f` is one node and `f` is not a field name; in `e.f`, e is visited too
abbrev pub selection_cost : Bool → List ℕ → Cost → Cost
selection_cost true f a = nothing
selection_cost false f a = a and name_or_text f

-- for `has(e.f)`, where e costs x: the field name and e; for another function of y: the cost of y
abbrev pub call_cost : Bool → Option (List ℕ) → Cost → Cost → Cost
call_cost true (Some f) x y = x and name_or_text f
call_cost _ _ x y = y

-- the items in order, each with its cost
abbrev pub each_item : (Value → Cost) → List Value → Cost
each_item f [] = nothing
each_item f (v ∷ vs) = one_visit and f v and each_item f vs

-- what a macro keeps of item v if its part gives x
abbrev pub kept_by : Macro → Value → ValueOrError → Cost
kept_by Filter v x = chosen (truth x) (kept (value v)) nothing nothing
kept_by Map v x = kept x
kept_by _ v x = nothing

-- the items of a macro, none if its range is neither a list nor a map; for each name and item its part has this cost and this value
abbrev pub macro_cost : Option Macro → Option (List ℕ) → (List ℕ → Value → Cost) → (List ℕ → Value → ValueOrError) → Option (List Value)
    → Cost
macro_cost (Some m) (Some n) c x items = option_map_or (each_item (λ v. c n v and kept_by m v (x n v))) items nothing
macro_cost _ _ c x items = nothing

-- the items of a `map` with a predicate; the transform is visited if the predicate is true
abbrev pub map_cost : Bool → Option (List ℕ) → (List ℕ → Value → Cost) → (List ℕ → Value → Truth) → (List ℕ → Value → Cost)
    → Option (List Value) → Cost
map_cost true (Some n) c p t items =
    option_map_or (each_item (λ v. c n v and chosen (p n v) (t n v) nothing nothing)) items nothing
map_cost _ _ c p t items = nothing

-- each node with its result, and the cost of its parts
unfoldable mutual
  pub cost : Tree → Environment → Cost
  cost (tree.literal l) env = node (meaning (tree.literal l) env) and literal_cost l
  cost (tree.name n) env = node (meaning (tree.name n) env)
  cost (tree.select a f) env = node (meaning (tree.select a f) env) and selection_cost (is_variables a) f (cost a env)
  cost (tree.index a k) env = node (meaning (tree.index a k) env) and cost a env and cost k env
  cost (tree.unary op a) env = node (meaning (tree.unary op a) env) and cost a env
  cost (tree.binary op a b) env = node (meaning (tree.binary op a b) env) and cost a env and cost b env
  cost (tree.ternary c a b) env =
      node (meaning (tree.ternary c a b) env) and cost c env and chosen (truth (meaning c env)) (cost a env) (cost b env) nothing
  cost (tree.list items) env = node (meaning (tree.list items) env) and costs items env
  cost (tree.map es) env = node (meaning (tree.map es) env) and entry_costs es env
  cost (tree.call n (more_trees a no_trees)) env =
      node (meaning (tree.call n (more_trees a no_trees)) env) and call_cost (is_has n) (field_name a) (operand_cost a env) (cost a env)
  cost (tree.call n _) env = node error
  cost (tree.method a n no_trees) env = node (meaning (tree.method a n no_trees) env) and cost a env
  cost (tree.method a n (more_trees b no_trees)) env =
      node (meaning (tree.method a n (more_trees b no_trees)) env) and cost a env and cost b env
  cost (tree.method a n (more_trees x (more_trees p no_trees))) env =
      node (meaning (tree.method a n (more_trees x (more_trees p no_trees))) env) and cost a env
      and macro_cost (macro_named n) (name_of x) (λ i v. cost p (bind i v env)) (λ i v. meaning p (bind i v env)) (range_of (meaning a env))
  cost (tree.method a n (more_trees x (more_trees p (more_trees t no_trees)))) env =
      node (meaning (tree.method a n (more_trees x (more_trees p (more_trees t no_trees)))) env) and cost a env
      and map_cost (is_map n) (name_of x) (λ i v. cost p (bind i v env)) (λ i v. truth (meaning p (bind i v env)))
      (λ i v. cost t (bind i v env) and kept (meaning t (bind i v env))) (range_of (meaning a env))
  cost (tree.method a n _) env = node error

  -- for `e.f`, the cost of e
  pub operand_cost : Tree → Environment → Cost
  operand_cost (tree.select a f) env = cost a env
  operand_cost _ env = nothing

  -- the items of a list literal
  pub costs : Trees → Environment → Cost
  costs no_trees env = nothing
  costs (more_trees a more) env = cost a env and kept (meaning a env) and costs more env

  -- the keys and values of a map literal
  pub entry_costs : TreeEntries → Environment → Cost
  entry_costs no_entries env = nothing
  entry_costs (more_entries k v more) env = cost k env and cost v env and kept (meaning v env) and entry_costs more env

-- the number of nodes and items that an evaluation visits
abbrev pub work_of : Tree → Environment → ℕ
work_of e env = (cost e env).visits

-- 8 for each visit, plus the sizes
abbrev pub spent_by : Cost → ℕ
spent_by c = 8 * c.visits + c.sizes

-- 8 for each visit, plus the sizes
abbrev pub spent_of : Tree → Environment → ℕ
spent_of e env = spent_by (cost e env)

-- the evaluation would build a list or map around a value of depth 255 or more
abbrev pub IsDeep : Tree → Environment → Type 0
IsDeep e env = (cost e env).is_deep ≡ true
