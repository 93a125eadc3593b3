-- An expression of the core that has a type is the expansion of its plain tree.
use Rattle.cel_types.proofs.Prelude.{arith, ◌≡◌, ℕ, false, List, [], ◌∷◌, Some, refl, sym, ap, subst, ◌∙◌, ⊤, IsSome, list_all, Callee, callee_name, function_in, test_in, Macro, macro_name, macro_named, is_map, is_has, is_variables, field_name, Core, Cores, CoreEntries, no_cores, more_cores, no_core_entries, more_core_entries, name, select, has, index, call, method, unary, binary, ternary, list, fold, fold_map, one_core, plain_tree, plain_trees, plain_entries, selection, call_or_has, method_or_fold, expanded, expanded_operand, expanded_trees, expanded_entries, CelType, TypeFault, Typing, typed, refused, NoOverload, with_type, with_types, Scope, name_type, within, field_row, has_row, index_row, unary_row, binary_row, ternary_row, function_row, method_row, test_row, macro_row, map_row, is_text_key, map_literal_row, typing, core_typing, core_typings, core_entry_typings, core_key_typings}
use Rattle.cel_macros.specs.CoreTree.{map}
use Rattle.cel_types.specs.declared.cel_type.CelType.TheVariants as type
use Rattle.cel_macros.proofs.Callees.{function_again, not_has, test_again}
use Rattle.cel_types.proofs.CoreTypes.{expansion_typed}

-- ---- if a node has a type, its parts have types

abbrev pub IsTyped : Typing → Type 0
IsTyped (typed t) = ⊤
IsTyped (refused y) = ⊥

first_typed : (x : Typing) (f : CelType → Typing) → IsTyped (with_type x f) → IsTyped x
first_typed x f h = grind arith

second_typed : (x y : Typing) (f : CelType → CelType → Typing) → IsTyped (with_type x (λ a. with_type y (f a))) → IsTyped y
second_typed x y f h = grind arith

third_typed : (x y z : Typing) (f : CelType → CelType → CelType → Typing) → IsTyped (with_type x (λ a. with_type y (λ b. with_type z (f a b)))) → IsTyped z
third_typed x y z f h = grind arith

head_typed : (x : Typing) (xs : List Typing) (last : Typing) → IsTyped (with_types (x ∷ xs) last) → IsTyped x
head_typed x xs last h = first_typed x (λ t. with_types xs last) h

tail_typed : (x : Typing) (xs : List Typing) (last : Typing) → IsTyped (with_types (x ∷ xs) last) → IsTyped (with_types xs last)
tail_typed x xs last h = grind arith

-- operands without a row have no type
never_typed : (xs : List Typing) (y : TypeFault) → IsTyped (with_types xs (refused y)) → ⊥
never_typed [] y h = h
never_typed (x ∷ xs) y h = never_typed xs y (tail_typed x xs (refused y) h)

-- ---- an expression with a type has no other form

-- it is not the name `variables`
no_variables : (a : Core) (s : Scope) → IsTyped (core_typing a s) → is_variables (plain_tree a) ≡ false
unfolding plain_tree core_typing is_variables name_type
no_variables a s h = grind arith

-- its callee is a function or a test
is_function : (c : Callee) (x : Typing) → IsTyped (with_type x (function_row (function_in c))) → IsSome (function_in c)
is_function c x h = grind arith

is_method : (c : Callee) (x : Typing) → IsTyped (with_type x (method_row (function_in c))) → IsSome (function_in c)
is_method c x h = grind arith

is_test : (c : Callee) (x y : Typing) → IsTyped (with_type x (λ a. with_type y (test_row (test_in c) a))) → IsSome (test_in c)
is_test c x y h = grind arith

macro_again : (m : Macro) → macro_named (macro_name m) ≡ Some m
unfolding macro_named
macro_again m = grind arith

-- ---- the expansion of the plain tree

mutual
  unfolding expanded plain_tree core_typing is_has is_map is_variables

  pub typed_expands : (c : Core) (s : Scope) → IsTyped (core_typing c s) → expanded (plain_tree c) ≡ c
  typed_expands (select a f) s h =
      let of = first_typed (core_typing a s) field_row h in
      λ j. selection (no_variables a s of j) f (typed_expands a s of j)
  typed_expands (has a f) s h = ap (λ t. has t f) (typed_expands a s (first_typed (core_typing a s) has_row h))
  typed_expands (index a k) s h = λ j. index (typed_expands a s (first_typed (core_typing a s) _ h) j) (typed_expands k s (second_typed (core_typing a s) (core_typing k s) index_row h) j)
  typed_expands (unary op a) s h = ap (unary op) (typed_expands a s (first_typed (core_typing a s) (unary_row op) h))
  typed_expands (binary op a b) s h = λ j. binary op (typed_expands a s (first_typed (core_typing a s) _ h) j) (typed_expands b s (second_typed (core_typing a s) (core_typing b s) (binary_row op) h) j)
  typed_expands (ternary c a b) s h = λ j. ternary (typed_expands c s (first_typed (core_typing c s) _ h) j) (typed_expands a s (second_typed (core_typing c s) (core_typing a s) _ h) j) (typed_expands b s (third_typed (core_typing c s) (core_typing a s) (core_typing b s) ternary_row h) j)
  typed_expands (list items) s h = ap list (trees_expand items s (typed type.List) h)
  typed_expands (map es) s h = ap map (entries_expand es s (map_literal_row (list_all is_text_key (core_key_typings es s))) h)
  typed_expands (call c no_cores) s h = absurd h
  typed_expands (call c (more_cores a no_cores)) s h =
      let known = is_function c (core_typing a s) h in
      (λ j. call_or_has (not_has c known j) (field_name (plain_tree a)) (callee_name c) (expanded_operand (plain_tree a)) (typed_expands a s (first_typed (core_typing a s) (function_row (function_in c)) h) j))
      ∙ ap (λ d. call d (one_core a)) (function_again c known)
  typed_expands (call c (more_cores a (more_cores b more))) s h = absurd (never_typed (core_typings (more_cores a (more_cores b more)) s) NoOverload h)
  typed_expands (method a c no_cores) s h = λ j. method (typed_expands a s (first_typed (core_typing a s) (method_row (function_in c)) h) j) (function_again c (is_method c (core_typing a s) h) j) no_cores
  typed_expands (method a c (more_cores b no_cores)) s h = λ j. method (typed_expands a s (first_typed (core_typing a s) _ h) j) (test_again c (is_test c (core_typing a s) (core_typing b s) h) j) (one_core (typed_expands b s (second_typed (core_typing a s) (core_typing b s) (test_row (test_in c)) h) j))
  typed_expands (method a c (more_cores b (more_cores d more))) s h = absurd (never_typed (core_typing a s ∷ core_typings (more_cores b (more_cores d more)) s) NoOverload h)
  typed_expands (fold m n r p) s h = λ j. method_or_fold (macro_again m j) (Some n) (macro_name m) (typed_expands r s (first_typed (core_typing r s) _ h) j) (name n) (typed_expands p (within n s) (second_typed (core_typing r s) (core_typing p (within n s)) (macro_row m) h) j)
  typed_expands (fold_map n r p t) s h = λ j. fold_map n (typed_expands r s (first_typed (core_typing r s) _ h) j) (typed_expands p (within n s) (second_typed (core_typing r s) (core_typing p (within n s)) _ h) j) (typed_expands t (within n s) (third_typed (core_typing r s) (core_typing p (within n s)) (core_typing t (within n s)) map_row h) j)
  typed_expands _ s h = refl

  trees_expand : (ts : Cores) (s : Scope) (last : Typing) → IsTyped (with_types (core_typings ts s) last) → expanded_trees (plain_trees ts) ≡ ts
  trees_expand no_cores s last h = refl
  trees_expand (more_cores a more) s last h = λ j. more_cores (typed_expands a s (head_typed (core_typing a s) (core_typings more s) last h) j) (trees_expand more s last (tail_typed (core_typing a s) (core_typings more s) last h) j)

  entries_expand : (es : CoreEntries) (s : Scope) (last : Typing) → IsTyped (with_types (core_entry_typings es s) last) → expanded_entries (plain_entries es) ≡ es
  entries_expand no_core_entries s last h = refl
  entries_expand (more_core_entries k v more) s last h =
      let rest = tail_typed (core_typing k s) (core_typing v s ∷ core_entry_typings more s) last h in
      λ j. more_core_entries (typed_expands k s (head_typed (core_typing k s) (core_typing v s ∷ core_entry_typings more s) last h) j) (typed_expands v s (head_typed (core_typing v s) (core_entry_typings more s) last rest) j) (entries_expand more s last (tail_typed (core_typing v s) (core_entry_typings more s) last rest) j)

-- ---- its type

pub typed_is_expanded : (c : Core) (s : Scope) (t : CelType) → core_typing c s ≡ typed t → c ≡ expanded (plain_tree c)
typed_is_expanded c s t is = sym (typed_expands c s (subst IsTyped (sym is) tt))

pub plain_typed : (c : Core) (s : Scope) (t : CelType) → core_typing c s ≡ typed t → typing (plain_tree c) s ≡ typed t
plain_typed c s t is = sym (expansion_typed (plain_tree c) s) ∙ ap (λ d. core_typing d s) (sym (typed_is_expanded c s t is)) ∙ is
