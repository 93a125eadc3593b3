-- Measures of an expanded expression: its nodes, the stack words that its code needs, and the depth of a variable
-- that it defines.
use Rattle.std.specs.Prelude.{ℕ, ◌+◌, max, List, unwrap_or}
use Rattle.cel_macros.specs.Environment.{lookup}
use Rattle.cel_macros.specs.CoreTree.{Core, Cores, CoreEntries, no_cores, more_cores, no_core_entries, more_core_entries, literal}
use Rattle.cel_macros.specs.CoreTree.{name, variable, select, has, index, call, method, unary, binary, ternary, list, map, fold, fold_map}

unfoldable mutual
  -- the number of nodes; the name that a macro declares and the selection inside `has` do not count
  pub nodes : Core → ℕ
  nodes (literal l) = 1
  nodes (name n) = 1
  nodes (variable v) = 1
  nodes (select a f) = 1 + nodes a
  nodes (has a f) = 1 + nodes a
  nodes (index a k) = 1 + nodes a + nodes k
  nodes (call n arguments) = 1 + nodes_of arguments
  nodes (method a n arguments) = 1 + nodes a + nodes_of arguments
  nodes (unary op a) = 1 + nodes a
  nodes (binary op a b) = 1 + nodes a + nodes b
  nodes (ternary c a b) = 1 + nodes c + nodes a + nodes b
  nodes (list items) = 1 + nodes_of items
  nodes (map es) = 1 + entries_nodes es
  nodes (fold m n r p) = 1 + nodes r + nodes p
  nodes (fold_map n r p t) = 1 + nodes r + nodes p + nodes t

  -- the number of nodes of all these expressions
  pub nodes_of : Cores → ℕ
  nodes_of no_cores = 0
  nodes_of (more_cores a more) = nodes a + nodes_of more

  -- the number of nodes of all keys and values
  pub entries_nodes : CoreEntries → ℕ
  entries_nodes no_core_entries = 0
  entries_nodes (more_core_entries k v more) = nodes k + nodes v + entries_nodes more

unfoldable mutual
  -- The number of stack words. An operand is kept in a word while later operands are evaluated. A list or a map is
  -- kept in one while its parts are evaluated, and a key in one more while its value is. The state of a macro takes
  -- five while its other parts are evaluated.
  pub need : Core → ℕ
  need (literal l) = 1
  need (name n) = 1
  need (variable v) = 1
  need (select a f) = need a
  need (has a f) = need a
  need (index a k) = max (need a) (1 + need k)
  need (call n arguments) = call_need arguments
  need (method a n arguments) = max (need a) (needs_behind arguments)
  need (unary op a) = need a
  need (binary op a b) = max (need a) (1 + need b)
  need (ternary c a b) = max (need c) (max (need a) (need b))
  need (list items) = 1 + needs items
  need (map es) = max 1 (entries_need es)
  need (fold m n r p) = max (need r) (5 + need p)
  need (fold_map n r p t) = max (need r) (5 + max (need p) (need t))

  -- a call of a function needs what its one operand needs; further operands would be kept like the items of a list
  pub call_need : Cores → ℕ
  call_need no_cores = 1
  call_need (more_cores a no_cores) = need a
  call_need (more_cores a (more_cores b more)) = 1 + max (need a) (max (need b) (needs more))

  -- the greatest need of these expressions, 0 if there are none
  pub needs : Cores → ℕ
  needs no_cores = 0
  needs (more_cores a more) = max (need a) (needs more)

  -- the greatest need of the operands after a first one, which is kept in a word
  pub needs_behind : Cores → ℕ
  needs_behind no_cores = 0
  needs_behind (more_cores a more) = max (1 + need a) (needs_behind more)

  -- the greatest need of these entries
  pub entries_need : CoreEntries → ℕ
  entries_need no_core_entries = 0
  entries_need (more_core_entries k v more) = max (max (1 + need k) (2 + need v)) (entries_need more)

unfoldable mutual
  -- the greatest depth of the variables that an expression uses, 0 if it uses none; s has the depth of each variable
  pub deepest : Core → List (List ℕ × ℕ) → ℕ
  deepest (literal l) s = 0
  deepest (name n) s = 0
  deepest (variable v) s = unwrap_or (lookup v s) 0
  deepest (select a f) s = deepest a s
  deepest (has a f) s = deepest a s
  deepest (index a k) s = max (deepest a s) (deepest k s)
  deepest (call n arguments) s = deepest_of arguments s
  deepest (method a n arguments) s = max (deepest a s) (deepest_of arguments s)
  deepest (unary op a) s = deepest a s
  deepest (binary op a b) s = max (deepest a s) (deepest b s)
  deepest (ternary c a b) s = max (deepest c s) (max (deepest a s) (deepest b s))
  deepest (list items) s = deepest_of items s
  deepest (map es) s = entries_deepest es s
  deepest (fold m n r p) s = max (deepest r s) (deepest p s)
  deepest (fold_map n r p t) s = max (deepest r s) (max (deepest p s) (deepest t s))

  -- the greatest depth for all these expressions
  pub deepest_of : Cores → List (List ℕ × ℕ) → ℕ
  deepest_of no_cores s = 0
  deepest_of (more_cores a more) s = max (deepest a s) (deepest_of more s)

  -- the greatest depth for all keys and values
  pub entries_deepest : CoreEntries → List (List ℕ × ℕ) → ℕ
  entries_deepest no_core_entries s = 0
  entries_deepest (more_core_entries k v more) s = max (max (deepest k s) (deepest v s)) (entries_deepest more s)

-- the depth of a variable with this expression; the variables that it may use have these depths
abbrev pub depth : Core → List (List ℕ × ℕ) → ℕ
depth e s = 1 + deepest e s
