-- An expanded expression has the type of the plain one.
use Rattle.cel_types.proofs.Prelude.{◌≡◌, ℕ, Bool, true, false, List, [], ◌∷◌, Option, Some, IfSome, refl, ap, list_all, Tree, Trees, TreeEntries, no_trees, more_trees, no_entries, more_entries, Macro, function_named, macro_named, is_map, is_has, is_variables, name_of, field_name, Core, selection, call_or_has, method_or_fold, method_or_fold_map, expanded, expanded_operand, expanded_trees, expanded_entries, Typing, typed, refused, NoOverload, row, with_type, with_types, Scope, within, field_row, has_row, index_row, unary_row, binary_row, ternary_row, function_row, method_row, test_row, macro_row, map_row, is_text_key, selected_type, call_type, fold_type, fold_map_type, typing, typings, operand_typing, entry_typings, key_typings, core_typing, core_typings, core_entry_typings, core_key_typings}
use Rattle.cel_reader.specs.Tree as tree
use Rattle.cel_types.specs.declared.cel_type.CelType.TheVariants as type
use Rattle.cel_macros.proofs.Callees.{function_stays, test_stays}

selection_typed : (b : Bool) (f : List ℕ) (c : Core) (t : Typing) (s : Scope) → core_typing c s ≡ t → core_typing (selection b f c) s ≡ selected_type b f t s
unfolding core_typing
selection_typed true f c t s h = refl
selection_typed false f c t s h = ap (λ r. with_type r field_row) h

call_typed : (b : Bool) (k : Option (List ℕ)) (n : List ℕ) (inner c : Core) (x y : Typing) (s : Scope) → IfSome k (λ f. core_typing inner s ≡ x)
    → core_typing c s ≡ y → core_typing (call_or_has b k n inner c) s ≡ call_type b k (function_named n) x y
unfolding core_typing
call_typed true (Some f) n inner c x y s hx hy = ap (λ r. with_type r has_row) hx
call_typed _ _ n inner c x y s hx hy = λ j. with_type (hy j) (function_row (function_stays n j))

-- a macro's list, variable and first expression
module _ (n : List ℕ) (ca cx cp : Core) (s : Scope) (a x p : Typing) (q : List ℕ → Typing) (ha : core_typing ca s ≡ a) (hx : core_typing cx s ≡ x) (hp : core_typing cp s ≡ p) (hq : (i : List ℕ) → core_typing cp (within i s) ≡ q i) where
  fold_typed : (m : Option Macro) (k : Option (List ℕ)) → core_typing (method_or_fold m k n ca cx cp) s ≡ fold_type m k a q (a ∷ x ∷ p ∷ [])
  unfolding core_typing
  fold_typed (Some m) (Some i) = λ j. with_type (ha j) (λ t. with_type (hq i j) (λ u. macro_row m t u))
  fold_typed _ _ = λ j. with_types (ha j ∷ hx j ∷ hp j ∷ []) (refused NoOverload)

  fold_map_typed : (b : Bool) (k : Option (List ℕ)) (ct : Core) (t : Typing) (u : List ℕ → Typing) → core_typing ct s ≡ t → ((i : List ℕ) → core_typing ct (within i s) ≡ u i)
      → core_typing (method_or_fold_map b k n ca cx cp ct) s ≡ fold_map_type b k a q u (a ∷ x ∷ p ∷ t ∷ [])
  unfolding core_typing
  fold_map_typed true (Some i) ct t u ht hu = λ j. with_type (ha j) (λ v. with_type (hq i j) (λ w. with_type (hu i j) (λ z. map_row v w z)))
  fold_map_typed _ _ ct t u ht hu = λ j. with_types (ha j ∷ hx j ∷ hp j ∷ ht j ∷ []) (refused NoOverload)

mutual
  unfolding expanded core_typing typing

  pub expansion_typed : (e : Tree) (s : Scope) → core_typing (expanded e) s ≡ typing e s
  expansion_typed (tree.select a f) s = selection_typed (is_variables a) f (expanded a) (typing a s) s (expansion_typed a s)
  expansion_typed (tree.index a k) s = λ j. with_type (expansion_typed a s j) (λ x. with_type (expansion_typed k s j) (λ y. index_row x y))
  expansion_typed (tree.unary op a) s = ap (λ t. with_type t (unary_row op)) (expansion_typed a s)
  expansion_typed (tree.binary op a b) s = λ j. with_type (expansion_typed a s j) (λ x. with_type (expansion_typed b s j) (λ y. binary_row op x y))
  expansion_typed (tree.ternary c a b) s = λ j. with_type (expansion_typed c s j) (λ x. with_type (expansion_typed a s j) (λ y. with_type (expansion_typed b s j) (λ z. ternary_row x y z)))
  expansion_typed (tree.list items) s = ap (λ ts. with_types ts (typed type.List)) (trees_typed items s)
  expansion_typed (tree.map es) s = λ j. with_types (entries_typed es s j) (row (list_all is_text_key (keys_typed es s j)) type.Map)
  expansion_typed (tree.call n (more_trees a no_trees)) s =
      call_typed (is_has n) (field_name a) n (expanded_operand a) (expanded a) (operand_typing a s) (typing a s) s (operand_typed a s) (expansion_typed a s)
  expansion_typed (tree.call n (more_trees a (more_trees b more))) s = λ j. with_types (expansion_typed a s j ∷ expansion_typed b s j ∷ trees_typed more s j) (refused NoOverload)
  expansion_typed (tree.method a n no_trees) s = λ j. with_type (expansion_typed a s j) (method_row (function_stays n j))
  expansion_typed (tree.method a n (more_trees b no_trees)) s = λ j. with_type (expansion_typed a s j) (λ x. with_type (expansion_typed b s j) (λ y. test_row (test_stays n j) x y))
  expansion_typed (tree.method a n (more_trees x (more_trees p no_trees))) s =
      fold_typed n (expanded a) (expanded x) (expanded p) s (typing a s) (typing x s) (typing p s) (λ i. typing p (within i s)) (expansion_typed a s) (expansion_typed x s) (expansion_typed p s) (λ i. expansion_typed p (within i s)) (macro_named n) (name_of x)
  expansion_typed (tree.method a n (more_trees x (more_trees p (more_trees t no_trees)))) s =
      fold_map_typed n (expanded a) (expanded x) (expanded p) s (typing a s) (typing x s) (typing p s) (λ i. typing p (within i s)) (expansion_typed a s) (expansion_typed x s) (expansion_typed p s) (λ i. expansion_typed p (within i s)) (is_map n) (name_of x) (expanded t) (typing t s) (λ i. typing t (within i s)) (expansion_typed t s) (λ i. expansion_typed t (within i s))
  expansion_typed (tree.method a n (more_trees x (more_trees p (more_trees t (more_trees u more))))) s = λ j. with_types (expansion_typed a s j ∷ expansion_typed x s j ∷ expansion_typed p s j ∷ expansion_typed t s j ∷ expansion_typed u s j ∷ trees_typed more s j) (refused NoOverload)
  expansion_typed _ s = refl

  operand_typed : (a : Tree) (s : Scope) → IfSome (field_name a) (λ f. core_typing (expanded_operand a) s ≡ operand_typing a s)
  operand_typed (tree.select a f) s = expansion_typed a s
  operand_typed _ s = tt

  trees_typed : (ts : Trees) (s : Scope) → core_typings (expanded_trees ts) s ≡ typings ts s
  trees_typed no_trees s = refl
  trees_typed (more_trees a more) s = λ j. expansion_typed a s j ∷ trees_typed more s j

  entries_typed : (es : TreeEntries) (s : Scope) → core_entry_typings (expanded_entries es) s ≡ entry_typings es s
  entries_typed no_entries s = refl
  entries_typed (more_entries k v more) s = λ j. expansion_typed k s j ∷ expansion_typed v s j ∷ entries_typed more s j

  keys_typed : (es : TreeEntries) (s : Scope) → core_key_typings (expanded_entries es) s ≡ key_typings es s
  keys_typed no_entries s = refl
  keys_typed (more_entries k v more) s = λ j. expansion_typed k s j ∷ keys_typed more s j
