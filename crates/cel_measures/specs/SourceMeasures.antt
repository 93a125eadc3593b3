-- The measures of a source expression with its macros, and the law that they are those of its expansion.
use Rattle.std.specs.Prelude.{◌≡◌, ℕ, ◌+◌, max, List, [], ◌∷◌, unwrap_or}
use Rattle.std.specs.Prelude.{map as each}
use Rattle.cel_reader.specs.Tree.{Tree}
use Rattle.cel_macros.specs.Environment.{lookup}
use Rattle.cel_macros.specs.CoreTree.{expanded}
use Rattle.cel_measures.specs.Measures as core
use Rattle.cel_measures.specs.Parts.{ExpressionForm, measured, plain, variable, of_one, of_two, ternary, call, method, list, map, macro, map_where}

-- the sum of the measures
abbrev pub total : List ℕ → ℕ
total [] = 0
total (n ∷ ns) = n + total ns

-- the greatest of the measures, 0 if there are none
abbrev pub greatest : List ℕ → ℕ
greatest [] = 0
greatest (n ∷ ns) = max n (greatest ns)

-- each form is one node, plus the nodes of its parts
abbrev pub nodes_by : ExpressionForm ℕ → ℕ
nodes_by plain = 1
nodes_by (variable v) = 1
nodes_by (of_one a) = 1 + a
nodes_by (of_two a b) = 1 + a + b
nodes_by (ternary c a b) = 1 + c + a + b
nodes_by (call arguments) = 1 + total arguments
nodes_by (method a arguments) = 1 + a + total arguments
nodes_by (list items) = 1 + total items
nodes_by (map es) = 1 + total (each (λ e. e.0 + e.1) es)
nodes_by (macro r p) = 1 + r + p
nodes_by (map_where r p t) = 1 + r + p + t

-- the stack words of a call: those of its one argument; without an argument one, for its value; with several one more
-- than the greatest of theirs, as for the items of a list
abbrev pub call_need : List ℕ → ℕ
call_need [] = 1
call_need (a ∷ []) = a
call_need (a ∷ b ∷ more) = 1 + greatest (a ∷ b ∷ more)

-- A value needs a word. An operand is kept in one while later ones are evaluated, a list or a map while its parts
-- are, a key in one more while its value is, and the state of a macro in five while its other parts are.
abbrev pub need_by : ExpressionForm ℕ → ℕ
need_by plain = 1
need_by (variable v) = 1
need_by (of_one a) = a
need_by (of_two a b) = max a (1 + b)
need_by (ternary c a b) = max c (max a b)
need_by (call arguments) = call_need arguments
need_by (method a arguments) = max a (greatest (each (λ b. 1 + b) arguments))
need_by (list items) = 1 + greatest items
need_by (map es) = max 1 (greatest (each (λ e. max (1 + e.0) (2 + e.1)) es))
need_by (macro r p) = max r (5 + p)
need_by (map_where r p t) = max r (5 + max p t)

-- the depth of variables.v, and for other forms the greatest of the parts; s has the depth of each variable
abbrev pub deepest_by : List (List ℕ × ℕ) → ExpressionForm ℕ → ℕ
deepest_by s plain = 0
deepest_by s (variable v) = unwrap_or (lookup v s) 0
deepest_by s (of_one a) = a
deepest_by s (of_two a b) = max a b
deepest_by s (ternary c a b) = max c (max a b)
deepest_by s (call arguments) = greatest arguments
deepest_by s (method a arguments) = max a (greatest arguments)
deepest_by s (list items) = greatest items
deepest_by s (map es) = greatest (each (λ e. max e.0 e.1) es)
deepest_by s (macro r p) = max r p
deepest_by s (map_where r p t) = max r (max p t)

-- the number of nodes
abbrev pub source_nodes : Tree → ℕ
source_nodes = measured nodes_by

-- the number of stack words
abbrev pub source_need : Tree → ℕ
source_need = measured need_by

-- the depth of a variable with this expression; the variables that it may use have these depths
abbrev pub source_depth : Tree → List (List ℕ × ℕ) → ℕ
source_depth e s = 1 + measured (deepest_by s) e

-- an expression and its expansion have the same number of nodes
abbrev pub SameNodes : Type 0
SameNodes = (e : Tree) → source_nodes e ≡ core.nodes (expanded e)

-- an expression and its expansion have the same need
abbrev pub SameNeed : Type 0
SameNeed = (e : Tree) → source_need e ≡ core.need (expanded e)

-- an expression and its expansion give the same depth
abbrev pub SameDepth : Type 0
SameDepth = (e : Tree) (s : List (List ℕ × ℕ)) → source_depth e s ≡ core.depth (expanded e) s
