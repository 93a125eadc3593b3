-- The form of the expressions that have code: those that the type checker accepts.
use Rattle.std.specs.Prelude.{◌≡◌, ℕ, true, false, List, Some, IsSome, bytes_eq}
use Rattle.std.specs.List.{list_any}
use Rattle.cel_macros.specs.CoreTree.{Core, Cores, CoreEntries, no_cores, more_cores, no_core_entries, more_core_entries, map, fold, fold_map}
use Rattle.cel_macros.specs.CoreTree.{plain_tree, literal, name, variable, select, has, index, call, method, unary, binary, ternary, list}
use Rattle.cel_macros.specs.Callee.{function_in, test_in}
use Rattle.cel_macros.specs.declared.function.Function.{TheVariants.Size}
use Rattle.cel_macros.specs.Macros.{is_variables}

unfoldable mutual
  -- calls are of the known functions, methods are sizes and tests of texts, variables have these names, and nothing
  -- is selected from `variables`
  pub IsAccepted : Core → List (List ℕ) → Type 0
  IsAccepted (literal l) vs = Unit {0}
  IsAccepted (name n) vs = Unit {0}
  IsAccepted (variable v) vs = list_any (λ m. bytes_eq m v) vs ≡ true
  IsAccepted (select a f) vs = (is_variables (plain_tree a) ≡ false) × IsAccepted a vs
  IsAccepted (has a f) vs = IsAccepted a vs
  IsAccepted (index a k) vs = IsAccepted a vs × IsAccepted k vs
  IsAccepted (call c (more_cores a no_cores)) vs = IsSome (function_in c) × IsAccepted a vs
  IsAccepted (call c _) vs = ⊥
  IsAccepted (method a c no_cores) vs = (function_in c ≡ Some Size) × IsAccepted a vs
  IsAccepted (method a c (more_cores b no_cores)) vs = IsSome (test_in c) × IsAccepted a vs × IsAccepted b vs
  IsAccepted (method a c _) vs = ⊥
  IsAccepted (unary op a) vs = IsAccepted a vs
  IsAccepted (binary op a b) vs = IsAccepted a vs × IsAccepted b vs
  IsAccepted (ternary c a b) vs = IsAccepted c vs × IsAccepted a vs × IsAccepted b vs
  IsAccepted (list items) vs = AreAccepted items vs
  IsAccepted (map es) vs = AreEntriesAccepted es vs
  IsAccepted (fold m n r p) vs = IsAccepted r vs × IsAccepted p vs
  IsAccepted (fold_map n r p t) vs = IsAccepted r vs × IsAccepted p vs × IsAccepted t vs

  -- each of the expressions has this form
  pub AreAccepted : Cores → List (List ℕ) → Type 0
  AreAccepted no_cores vs = Unit {0}
  AreAccepted (more_cores a more) vs = IsAccepted a vs × AreAccepted more vs

  -- each key and each value has this form
  pub AreEntriesAccepted : CoreEntries → List (List ℕ) → Type 0
  AreEntriesAccepted no_core_entries vs = Unit {0}
  AreEntriesAccepted (more_core_entries k v more) vs = IsAccepted k vs × IsAccepted v vs × AreEntriesAccepted more vs
