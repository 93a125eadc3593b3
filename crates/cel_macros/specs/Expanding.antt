-- Expansion of calls and methods whose parts are expanded.
use Rattle.std.specs.Prelude.{◌≡◌, ℕ, Bool, true, false, List, [], ◌∷◌, Option, Some, None}
use Rattle.cel_macros.specs.Callee.{callee_named}
use Rattle.cel_macros.specs.Macros.{macro_named, is_map, is_has, variables_name}
use Rattle.cel_macros.specs.declared.shape.Shape.{Shape, TheVariants.Pair, TheVariants.Triple, TheVariants.Other}
use Rattle.cel_macros.specs.declared.core_tree.Core.{Core as CodeCore}
use Rattle.cel_reader.specs.declared.expr.Expr.{Expr}
use Rattle.cel_reader.specs.Tree.{view}
use Rattle.cel_macros.specs.CoreView.{cores, core_view}
use Rattle.cel_macros.specs.CoreTree.{Core, Cores, no_cores, more_cores, name, variable, select, has, call, method, fold_map}
use Rattle.cel_macros.specs.CoreTree.{one_core, expanded, method_or_fold, method_or_fold_map}

-- the iteration name, if the expression is a name
abbrev pub core_name : Core → Option (List ℕ)
core_name (name n) = Some n
core_name _ = None

-- the operand and the field, if the expression is a selection
abbrev pub core_selection : Core → Option (Core × List ℕ)
core_selection (select a f) = Some (a, f)
core_selection (variable f) = Some (name variables_name, f)
core_selection _ = None

-- a call of n with one argument a: `has` if n is that name and a selects a field, else a call
abbrev pub has_or_call : Bool → Option (Core × List ℕ) → List ℕ → Core → Core
has_or_call true (Some s) n a = has s.0 s.1
has_or_call true None n a = call (callee_named n) (one_core a)
has_or_call false s n a = call (callee_named n) (one_core a)

-- a call of n with these arguments; b: n is the name `has`
abbrev pub call_with : Bool → List ℕ → Cores → Core
call_with b n no_cores = call (callee_named n) no_cores
call_with b n (more_cores a no_cores) = has_or_call b (core_selection a) n a
call_with b n (more_cores a (more_cores d more)) = call (callee_named n) (more_cores a (more_cores d more))

-- the expansion of a call of n with expanded arguments
abbrev pub call_of : List ℕ → Cores → Core
call_of n arguments = call_with (is_has n) n arguments

-- the expansion of a method n of a with expanded arguments
abbrev pub method_of : Core → List ℕ → Cores → Core
method_of a n (more_cores x (more_cores p no_cores)) = method_or_fold (macro_named n) (core_name x) n a x p
method_of a n (more_cores x (more_cores p (more_cores t no_cores))) = method_or_fold_map (is_map n) (core_name x) n a x p t
method_of a n arguments = method a (callee_named n) arguments

-- the arguments are two, the first a name
abbrev pub IsPair : List Core → Type 0
IsPair items = (i : List ℕ) × (p : Core) × (items ≡ name i ∷ p ∷ [])

-- the arguments are three, the first a name
abbrev pub IsTriple : List Core → Type 0
IsTriple items = (i : List ℕ) × (p : Core) × (t : Core) × (items ≡ name i ∷ p ∷ t ∷ [])

-- with these arguments every method remains a call
abbrev pub AreCallArguments : List Core → Type 0
AreCallArguments items = (a : Core) (n : List ℕ) → method_of a n (cores items) ≡ method a (callee_named n) (cores items)

-- the arguments have this shape
abbrev pub HasShape : Shape → List Core → Type 0
HasShape Pair items = IsPair items
HasShape Triple items = IsTriple items
HasShape Other items = AreCallArguments items

-- c is `map` of a with these three arguments
abbrev pub IsFoldMap : Core → Core → List Core → Type 0
IsFoldMap c a items = (i : List ℕ) × (p : Core) × (t : Core) × (items ≡ name i ∷ p ∷ t ∷ []) × (c ≡ fold_map i a p t)

-- an expanded key and its value as plain data
abbrev pub core_pair : CodeCore × CodeCore → Core × Core
core_pair e = (core_view e.0, core_view e.1)

-- the expansions of a key and its value
abbrev pub expanded_pair : Expr × Expr → Core × Core
expanded_pair e = (expanded (view e.0), expanded (view e.1))
