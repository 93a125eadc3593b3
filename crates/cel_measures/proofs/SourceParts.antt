-- If a table computes a measure of expanded expressions, it gives the same for the source.
use Rattle.cel_measures.proofs.Prelude.{◌≡◌, ℕ, Bool, List, [], ◌∷◌, Option, Some, None, refl, ap, ◌∙◌, arith, Tree, Trees, TreeEntries, no_trees, more_trees, no_entries, more_entries, Macro, macro_named, is_map, is_variables, name_of, field_name, Core, Cores, CoreEntries, no_cores, more_cores, no_core_entries, more_core_entries, selection, call_or_has, method_or_fold, method_or_fold_map, expanded, expanded_operand, expanded_trees, expanded_entries, ExpressionForm, selected, called, by_method, measured, operand_measured, each_measured, entries_measured, callee_named}
use Rattle.cel_reader.specs.Tree as tree
use Rattle.cel_macros.specs.CoreTree as core
use Rattle.cel_measures.specs.Parts as parts

-- the measure of each expression
abbrev pub each_core : {R : Type 0} → (Core → R) → Cores → List R
each_core m no_cores = []
each_core m (more_cores a more) = m a ∷ each_core m more

abbrev pub core_pairs : {R : Type 0} → (Core → R) → CoreEntries → List (R × R)
core_pairs m no_core_entries = []
core_pairs m (more_core_entries k v more) = (m k, m v) ∷ core_pairs m more

-- the form of an expanded expression, with the measure of each of its parts
abbrev pub core_parts : {R : Type 0} → (Core → R) → Core → ExpressionForm R
core_parts m (core.literal l) = parts.plain
core_parts m (core.name n) = parts.plain
core_parts m (core.variable v) = parts.variable v
core_parts m (core.select a f) = parts.of_one (m a)
core_parts m (core.has a f) = parts.of_one (m a)
core_parts m (core.index a k) = parts.of_two (m a) (m k)
core_parts m (core.call n arguments) = parts.call (each_core m arguments)
core_parts m (core.method a n arguments) = parts.method (m a) (each_core m arguments)
core_parts m (core.unary op a) = parts.of_one (m a)
core_parts m (core.binary op a b) = parts.of_two (m a) (m b)
core_parts m (core.ternary c a b) = parts.ternary (m c) (m a) (m b)
core_parts m (core.list items) = parts.list (each_core m items)
core_parts m (core.map es) = parts.map (core_pairs m es)
core_parts m (core.fold w n r p) = parts.macro (m r) (m p)
core_parts m (core.fold_map n r p t) = parts.map_where (m r) (m p) (m t)

-- the table computes the measure of each form from those of its parts
abbrev pub IsBy : {R : Type 0} → (ExpressionForm R → R) → (Core → R) → Type 0
IsBy by m = (e : Core) → by (core_parts m e) ≡ m e

module _ {R : Type 0} (by : ExpressionForm R → R) (m : Core → R) (table : IsBy by m) where
  a_selection : (b : Bool) (f : List ℕ) (a : Core) → by (selected b f (m a)) ≡ m (selection b f a)
  a_selection b f a = grind (arith, table)

  -- the measure of the operand of a selection
  abbrev operand : Option (List ℕ) → Core → Option R
  operand (Some f) inner = Some (m inner)
  operand None inner = None

  a_call : (b : Bool) (k : Option (List ℕ)) (n : List ℕ) (inner a : Core) → by (called (m a ∷ []) b (operand k inner)) ≡ m (call_or_has b k n inner a)
  a_call b k n inner a = grind (arith, table)

  a_fold : (w : Option Macro) (b : Bool) (k : Option (List ℕ)) (n : List ℕ) (a x p : Core)
      → by (by_method (m a) (m x ∷ m p ∷ []) w b k) ≡ m (method_or_fold w k n a x p)
  a_fold w b k n a x p = grind (arith, table)

  a_fold_map : (w : Option Macro) (b : Bool) (k : Option (List ℕ)) (n : List ℕ) (a x p t : Core)
      → by (by_method (m a) (m x ∷ m p ∷ m t ∷ []) w b k) ≡ m (method_or_fold_map b k n a x p t)
  a_fold_map w b k n a x p t = grind (arith, table)

  mutual
    unfolding measured expanded

    pub source_same : (e : Tree) → measured by e ≡ m (expanded e)
    source_same (tree.literal l) = table (core.literal l)
    source_same (tree.name n) = table (core.name n)
    source_same (tree.select a f) = ap (λ x. by (selected (is_variables a) f x)) (source_same a) ∙ a_selection (is_variables a) f (expanded a)
    source_same (tree.index a k) = (λ j. by (parts.of_two (source_same a j) (source_same k j))) ∙ table (core.index (expanded a) (expanded k))
    source_same (tree.unary op a) = ap (λ x. by (parts.of_one x)) (source_same a) ∙ table (core.unary op (expanded a))
    source_same (tree.binary op a b) = (λ j. by (parts.of_two (source_same a j) (source_same b j))) ∙ table (core.binary op (expanded a) (expanded b))
    source_same (tree.ternary c a b) = grind (arith, table (core.ternary (expanded c) (expanded a) (expanded b)), source_same c, source_same a, source_same b)
    source_same (tree.list items) = ap (λ xs. by (parts.list xs)) (each_same items) ∙ table (core.list (expanded_trees items))
    source_same (tree.map es) = ap (λ xs. by (parts.map xs)) (entries_same es) ∙ table (core.map (expanded_entries es))
    source_same (tree.call n no_trees) = table (core.call (callee_named n) no_cores)
    source_same (tree.call n (more_trees a no_trees)) = grind (arith, a_call, source_same a, operand_same a)
    source_same (tree.call n (more_trees a (more_trees b more))) =
        ap (λ xs. by (parts.call xs)) (each_same (more_trees a (more_trees b more))) ∙ table (core.call (callee_named n) (expanded_trees (more_trees a (more_trees b more))))
    source_same (tree.method a n no_trees) = ap (λ x. by (parts.method x [])) (source_same a) ∙ table (core.method (expanded a) (callee_named n) no_cores)
    source_same (tree.method a n (more_trees b no_trees)) =
        (λ j. by (parts.method (source_same a j) (each_same (more_trees b no_trees) j)))
        ∙ table (core.method (expanded a) (callee_named n) (more_cores (expanded b) no_cores))
    source_same (tree.method a n (more_trees x (more_trees p no_trees))) =
        (λ j. by (by_method (source_same a j) (each_same (more_trees x (more_trees p no_trees)) j) (macro_named n) (is_map n) (name_of x)))
        ∙ a_fold (macro_named n) (is_map n) (name_of x) n (expanded a) (expanded x) (expanded p)
    source_same (tree.method a n (more_trees x (more_trees p (more_trees t no_trees)))) =
        (λ j. by (by_method (source_same a j) (each_same (more_trees x (more_trees p (more_trees t no_trees))) j) (macro_named n) (is_map n) (name_of x)))
        ∙ a_fold_map (macro_named n) (is_map n) (name_of x) n (expanded a) (expanded x) (expanded p) (expanded t)
    source_same (tree.method a n (more_trees x (more_trees p (more_trees t (more_trees u more))))) =
        (λ j. by (parts.method (source_same a j) (each_same (more_trees x (more_trees p (more_trees t (more_trees u more)))) j)))
        ∙ table (core.method (expanded a) (callee_named n) (expanded_trees (more_trees x (more_trees p (more_trees t (more_trees u more))))))

    operand_same : (a : Tree) → operand_measured by (more_trees a no_trees) ≡ operand (field_name a) (expanded_operand a)
    operand_same (tree.select a f) = ap Some (source_same a)
    operand_same _ = refl

    each_same : (ts : Trees) → each_measured by ts ≡ each_core m (expanded_trees ts)
    each_same no_trees = refl
    each_same (more_trees a more) = λ j. source_same a j ∷ each_same more j

    entries_same : (es : TreeEntries) → entries_measured by es ≡ core_pairs m (expanded_entries es)
    entries_same no_entries = refl
    entries_same (more_entries k v more) = λ j. (source_same k j, source_same v j) ∷ entries_same more j
