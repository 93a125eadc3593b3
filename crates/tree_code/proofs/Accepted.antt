-- Each expression that the type checker accepts has code: its calls are of known functions, and its variables are in
-- the scope.
use Rattle.tree_code.proofs.Prelude.{Size, ◌≡◌, ℕ, Bool, true, false, ◌||◌, List, [], ◌∷◌, Option, Some, sym, ap, ◌∙◌, subst, arith, if◌then◌else◌, refl, map-map, bytes_eq, IsSome, map as each, list_any, Core, Cores, CoreEntries, no_cores, more_cores, no_core_entries, more_core_entries, plain_tree, name, variable, select, has, index, call, method, unary, binary, ternary, list, fold, fold_map, plain_trees, plain_entries, expanded, expanded_trees, expanded_entries, expanded_operand, selection, call_or_has, method_or_fold, one_core, literal, lookup, is_variables, macro_name, macro_named, is_map, field_name, CelType, core_typing, core_typings, core_entry_typings, Declaration, depths_of, scope_of, Scope, name_type, variable_type, within, field_row, has_row, index_row, unary_row, binary_row, ternary_row, test_row, macro_row, map_row, Typing, typed, refused, with_type, with_types, Variable, IsAccepted, AreAccepted, AreEntriesAccepted, names, nestings, TypedIsAccepted, Macro, Callee, callee_name, Function, function_again, function_in, not_has, test_again, test_in, is_has}
use Rattle.std.specs.Option.{option_map_or}
use Rattle.cel_types.specs.Types.{MisplacedVariables}
use Rattle.cel_macros.specs.CoreTree.{map}

abbrev pub IsTyped : Typing → Type 0
IsTyped (typed t) = Unit {0}
IsTyped (refused y) = ⊥

-- if a node has a type, its parts have types
first_typed : (x : Typing) (f : CelType → Typing) → IsTyped (with_type x f) → IsTyped x
first_typed x f h = grind arith

second_typed : (x y : Typing) (f : CelType → CelType → Typing) → IsTyped (with_type x (λ a. with_type y (f a))) → IsTyped y
second_typed x y f h = grind arith

third_typed : (x y z : Typing) (f : CelType → CelType → CelType → Typing) → IsTyped (with_type x (λ a. with_type y (λ b. with_type z (f a b)))) → IsTyped z
third_typed x y z f h = grind arith

rest_typed : (x : Typing) (xs : List Typing) (last : Typing) → IsTyped (with_types (x ∷ xs) last) → IsTyped (with_types xs last)
rest_typed x xs last h = grind arith

-- operands without an overload have no type
none_typed : (xs : List Typing) (y : _) → IsTyped (with_types xs (refused y)) → ⊥
none_typed [] y h = h
none_typed (x ∷ xs) y h = none_typed xs y (rest_typed x xs (refused y) h)

known_by : (here : Bool) (t : CelType) (rest : Option CelType) (more : Bool) → (IsTyped (option_map_or typed rest (refused MisplacedVariables)) → more ≡ true)
    → IsTyped (option_map_or typed (if here then Some t else rest) (refused MisplacedVariables)) → (here || more) ≡ true
known_by here t rest more later h = grind arith

-- a variable with a type has one of the declared names
known_variable : (v : List ℕ) (variables : List (List ℕ × CelType)) → IsTyped (variable_type v variables)
    → list_any (λ m. bytes_eq m v) (each (λ x. x.0) variables) ≡ true
unfolding variable_type
known_variable v [] h = absurd h
known_variable v (x ∷ variables) h =
    known_by (bytes_eq x.0 v) x.1 (lookup v variables) (list_any (λ m. bytes_eq m v) (each (λ y. y.0) variables)) (known_variable v variables) h

-- the name `variables` has no type
not_variables : (a : Core) (s : Scope) → IsTyped (core_typing a s) → is_variables (plain_tree a) ≡ false
unfolding plain_tree core_typing is_variables name_type
not_variables a s h = grind arith

mutual
  unfolding core_typing IsAccepted

  pub accepted : (e : Core) (s : Scope) (vs : List (List ℕ)) → each (λ x. x.0) s.variables ≡ vs → IsTyped (core_typing e s) → IsAccepted e vs
  accepted (variable x) s vs v h = subst (λ (ns : List (List ℕ)). list_any (λ m. bytes_eq m x) ns ≡ true) v (known_variable x s.variables h)
  accepted (select a f) s vs v h = let of = first_typed (core_typing a s) field_row h in (not_variables a s of, accepted a s vs v of)
  accepted (has a f) s vs v h = accepted a s vs v (first_typed (core_typing a s) has_row h)
  accepted (index a k) s vs v h = (accepted a s vs v (first_typed (core_typing a s) _ h), accepted k s vs v (second_typed (core_typing a s) (core_typing k s) index_row h))
  accepted (call n no_cores) s vs v h = h
  accepted (call n (more_cores a no_cores)) s vs v h = (grind arith, accepted a s vs v (first_typed (core_typing a s) _ h))
  accepted (call n (more_cores a (more_cores b more))) s vs v h = none_typed (core_typings (more_cores a (more_cores b more)) s) _ h
  accepted (method a n no_cores) s vs v h = (grind arith, accepted a s vs v (first_typed (core_typing a s) _ h))
  accepted (method a n (more_cores b no_cores)) s vs v h = (
    grind arith,
    accepted a s vs v (first_typed (core_typing a s) _ h),
    accepted b s vs v (second_typed (core_typing a s) (core_typing b s) (test_row (test_in n)) h),
  )
  accepted (method a n (more_cores b (more_cores x more))) s vs v h = none_typed (core_typing a s ∷ core_typings (more_cores b (more_cores x more)) s) _ h
  accepted (unary op a) s vs v h = accepted a s vs v (first_typed (core_typing a s) (unary_row op) h)
  accepted (binary op a b) s vs v h = (accepted a s vs v (first_typed (core_typing a s) _ h), accepted b s vs v (second_typed (core_typing a s) (core_typing b s) (binary_row op) h))
  accepted (ternary c a b) s vs v h = (
    accepted c s vs v (first_typed (core_typing c s) _ h),
    accepted a s vs v (second_typed (core_typing c s) (core_typing a s) _ h),
    accepted b s vs v (third_typed (core_typing c s) (core_typing a s) (core_typing b s) ternary_row h),
  )
  accepted (list items) s vs v h = are_accepted items s vs v _ h
  accepted (map es) s vs v h = are_entries_accepted es s vs v _ h
  accepted (fold m n r p) s vs v h = (
    accepted r s vs v (first_typed (core_typing r s) _ h),
    accepted p (within n s) vs v (second_typed (core_typing r s) (core_typing p (within n s)) (macro_row m) h),
  )
  accepted (fold_map n r p t) s vs v h = (
    accepted r s vs v (first_typed (core_typing r s) _ h),
    accepted p (within n s) vs v (second_typed (core_typing r s) (core_typing p (within n s)) _ h),
    accepted t (within n s) vs v (third_typed (core_typing r s) (core_typing p (within n s)) (core_typing t (within n s)) map_row h),
  )
  accepted _ s vs v h = tt

  are_accepted : (es : Cores) (s : Scope) (vs : List (List ℕ)) → each (λ x. x.0) s.variables ≡ vs → (last : Typing)
      → IsTyped (with_types (core_typings es s) last) → AreAccepted es vs
  are_accepted no_cores s vs v last h = tt
  are_accepted (more_cores a more) s vs v last h = (
    accepted a s vs v (first_typed (core_typing a s) (λ t. with_types (core_typings more s) last) h),
    are_accepted more s vs v last (rest_typed (core_typing a s) (core_typings more s) last h),
  )

  are_entries_accepted : (es : CoreEntries) (s : Scope) (vs : List (List ℕ)) → each (λ x. x.0) s.variables ≡ vs → (last : Typing)
      → IsTyped (with_types (core_entry_typings es s) last) → AreEntriesAccepted es vs
  are_entries_accepted no_core_entries s vs v last h = tt
  are_entries_accepted (more_core_entries k e more) s vs v last h =
      let rest = rest_typed (core_typing k s) (core_typing e s ∷ core_entry_typings more s) last h in
      (accepted k s vs v (first_typed (core_typing k s) (λ t. with_types (core_typing e s ∷ core_entry_typings more s) last) h), accepted e s vs v (first_typed (core_typing e s) (λ t. with_types (core_entry_typings more s) last) rest), are_entries_accepted more s vs v last (rest_typed (core_typing e s) (core_entry_typings more s) last rest))

pub typed_accepted : TypedIsAccepted
typed_accepted e ds t h =
    accepted e (scope_of ds) (each (λ d. d.name) ds) (map-map (λ (x : List ℕ × CelType). x.0) (λ (d : Declaration). (d.name, d.cel_type)) ds) (subst IsTyped (sym h) tt)

-- if the depths of a scope's variables are the declared ones, so are their names
pub names_declared : (scope : List Variable) (ds : List Declaration) → nestings scope ≡ depths_of ds → names scope ≡ each (λ d. d.name) ds
names_declared scope ds e =
    let first : List ℕ × ℕ → List ℕ = λ x. x.0 in
    sym (map-map first (λ (v : Variable). (v.name, v.nesting)) scope) ∙ ap (each first) e ∙ map-map first (λ (d : Declaration). (d.name, d.depth)) ds

-- ---- an accepted expression is the expansion of its plain tree

-- the name of a macro names that macro
macro_again : (m : Macro) → macro_named (macro_name m) ≡ Some m
unfolding macro_named
macro_again m = grind arith

some_size : (o : Option Function) → o ≡ Some Size → IsSome o
some_size o e = subst IsSome (sym e) refl

mutual
  unfolding IsAccepted expanded plain_tree is_has is_map is_variables

  pub expanded_again : (e : Core) (vs : List (List ℕ)) → IsAccepted e vs → expanded (plain_tree e) ≡ e
  expanded_again (literal l) vs h = refl
  expanded_again (name n) vs h = refl
  expanded_again (variable v) vs h = refl
  expanded_again (select a f) vs h = λ i. selection (h.0 i) f (expanded_again a vs h.1 i)
  expanded_again (has a f) vs h = ap (λ (x : Core). has x f) (expanded_again a vs h)
  expanded_again (index a k) vs h = λ i. index (expanded_again a vs h.0 i) (expanded_again k vs h.1 i)
  expanded_again (call n (more_cores a no_cores)) vs h =
      (λ i. call_or_has (not_has n h.0 i) (field_name (plain_tree a)) (callee_name n) (expanded_operand (plain_tree a)) (expanded_again a vs h.1 i))
      ∙ ap (λ (x : Callee). call x (one_core a)) (function_again n h.0)
  expanded_again (method a n no_cores) vs h =
      λ i. method (expanded_again a vs h.1 i) (function_again n (some_size (function_in n) h.0) i) no_cores
  expanded_again (method a n (more_cores b no_cores)) vs h =
      λ i. method (expanded_again a vs h.1 i) (test_again n h.0 i) (one_core (expanded_again b vs h.2 i))
  expanded_again (unary op a) vs h = ap (unary op) (expanded_again a vs h)
  expanded_again (binary op a b) vs h = λ i. binary op (expanded_again a vs h.0 i) (expanded_again b vs h.1 i)
  expanded_again (ternary c a b) vs h = λ i. ternary (expanded_again c vs h.0 i) (expanded_again a vs h.1 i) (expanded_again b vs h.2 i)
  expanded_again (list items) vs h = ap list (each_again items vs h)
  expanded_again (map es) vs h = ap map (entries_again es vs h)
  expanded_again (fold m n r p) vs h =
      λ i. method_or_fold (macro_again m i) (Some n) (macro_name m) (expanded_again r vs h.0 i) (name n) (expanded_again p vs h.1 i)
  expanded_again (fold_map n r p t) vs h = λ i. fold_map n (expanded_again r vs h.0 i) (expanded_again p vs h.1 i) (expanded_again t vs h.2 i)
  expanded_again _ vs h = absurd h

  each_again : (es : Cores) (vs : List (List ℕ)) → AreAccepted es vs → expanded_trees (plain_trees es) ≡ es
  each_again no_cores vs h = refl
  each_again (more_cores a more) vs h = λ i. more_cores (expanded_again a vs h.0 i) (each_again more vs h.1 i)

  entries_again : (es : CoreEntries) (vs : List (List ℕ)) → AreEntriesAccepted es vs → expanded_entries (plain_entries es) ≡ es
  entries_again no_core_entries vs h = refl
  entries_again (more_core_entries k v more) vs h = λ i. more_core_entries (expanded_again k vs h.0 i) (expanded_again v vs h.1 i) (entries_again more vs h.2 i)
