-- The expansion of a call and a method, from their expanded parts.
use Rattle.cel_macros.proofs.Prelude.{◌≡◌, ℕ, ◌<◌, ◌≤◌, Bool, true, List, [], ◌∷◌, length, get_or, Option, is_some, map, refl, arith, Expr, Tree, Trees, no_trees, more_trees, view, trees, entries, name_of, field_name, Core, name, call, call_or_has, expanded, expanded_operand, expanded_trees, expanded_entries, callee_named, CodeCore, core_view, cores, core_entries, core_name, core_selection, has_or_call, call_with, call_of, IsPair, IsTriple, AreCallArguments, expanded_pair}
use Rattle.cel_reader.specs.Tree as tree
use Rattle.cel_macros.specs.Expanding.{method_of}
use Rattle.cel_macros.proofs.Expansion.{variables_back}

-- ---- an expanded expression is a name or a selection if the source expression is

name_stays : (x : Tree) → core_name (expanded x) ≡ name_of x
unfolding expanded
name_stays x = grind arith

-- by the selection for the macro `has`, by the argument for a call
abbrev Selects : Core → Option (List ℕ) → Core → Type 0
Selects a k inner = (b : Bool) (n : List ℕ) → has_or_call b (core_selection a) n a ≡ call_or_has b k n inner a

selection_stays : (a : Tree) → Selects (expanded a) (field_name a) (expanded_operand a)
unfolding expanded
selection_stays a = grind (arith, variables_back)

-- ---- calls and methods

pub call_expanded : (n : List ℕ) (ts : Trees) → expanded (tree.call n ts) ≡ call_of n (expanded_trees ts)
unfolding expanded
call_expanded n (more_trees a no_trees) = grind (arith, selection_stays)
call_expanded n _ = refl

pub method_expanded : (a : Tree) (n : List ℕ) (ts : Trees) → expanded (tree.method a n ts) ≡ method_of (expanded a) n (expanded_trees ts)
unfolding expanded
method_expanded a n (more_trees x (more_trees p no_trees)) = grind (arith, name_stays)
method_expanded a n (more_trees x (more_trees p (more_trees t no_trees))) = grind (arith, name_stays)
method_expanded a n _ = refl

pub call_of_many : (b : Bool) (n : List ℕ) (items : List CodeCore) → (length items ≡ 1 → ⊥) → call_with b n (cores (map core_view items)) ≡ call (callee_named n) (cores (map core_view items))
call_of_many b n (a ∷ []) h = absurd (h refl)
call_of_many b n _ h = refl

-- ---- shapes

named : (c : Core) → is_some (core_name c) ≡ true → (i : List ℕ) × (c ≡ name i)
named c e = grind arith

pub pair_shape : (items : List CodeCore) (x : CodeCore) → 2 ≤ length items → length items < 3 → x ≡ get_or items 0 x → is_some (core_name (core_view x)) ≡ true → IsPair (map core_view items)
pair_shape (a ∷ b ∷ []) x h g e t = grind arith
pair_shape _ x h g e t = absurd (omega arith)

pub triple_shape : (items : List CodeCore) (x : CodeCore) → 3 ≤ length items → length items < 4 → x ≡ get_or items 0 x → is_some (core_name (core_view x)) ≡ true → IsTriple (map core_view items)
triple_shape (a ∷ b ∷ d ∷ []) x h g e t = grind arith
triple_shape _ x h g e t = absurd (omega arith)

pub other_few : (items : List CodeCore) → length items < 2 → AreCallArguments (map core_view items)
other_few (a ∷ b ∷ items) h = absurd (omega arith)
other_few _ h = λ o n. refl

pub other_many : (items : List CodeCore) → 3 < length items → AreCallArguments (map core_view items)
other_many (a ∷ b ∷ d ∷ f ∷ items) h = λ o n. refl
other_many _ h = absurd (omega arith)

-- ---- lists of parts

pub each_expanded : (items : List Expr) → cores (map (λ e. expanded (view e)) items) ≡ expanded_trees (trees (map view items))
unfolding expanded
each_expanded [] = refl
each_expanded (e ∷ items) = grind (arith, each_expanded items)

pub each_entry_expanded : (pairs : List (Expr × Expr)) → core_entries (map expanded_pair pairs) ≡ expanded_entries (entries (map (λ e. (view e.0, view e.1)) pairs))
unfolding expanded
each_entry_expanded [] = refl
each_entry_expanded (e ∷ pairs) = grind (arith, each_entry_expanded pairs)
