-- The type or the fault of an expression is the one that the rows of the table give.
use Rattle.cel_types.proofs.Prelude.{◌≡◌, ◌⊎◌, inl, inr, ℕ, Bool, ◌&&◌, List, [], ◌∷◌, Option, Some, None, is_some, map, refl, sym, ap, ◌∙◌, subst, if◌then◌else◌, arith, ⊤, list_all, Tree, Trees, TreeEntries, no_trees, more_trees, no_entries, more_entries, tree_list, Macro, Function, function_named, macro_named, is_map, is_has, is_variables, CelType, TypeFault, NoOverload, Typing, typed, refused, allowed, with_type, with_types, Scope, within, is_text_key, map_literal_row, selected_type, call_type, fold_type, fold_map_type, typing, typings, operand_typing, entry_typings, key_typings, IsRow, keys_and_values, in_scope, parts_of, Has, by_row, Have, no_parts, next_part, cause, Fault, in_part, at_node, FirstFault, here, behind, TypesAreRows, FaultsAreFirst, OneTypeOrFault}
use Rattle.cel_reader.specs.Tree as tree
use Rattle.cel_types.specs.declared.cel_type.CelType.TheVariants as type
use Rattle.cel_types.proofs.RowTyped.{on_one, select_node, fold_node, fold_map_node, text_keys, node, row_typed}
use Rattle.cel_types.proofs.NodeRows.{Answered, node_rows}

-- ---- the typing of a tree, given those of its parts

abbrev part_typing : Scope × Tree → Typing
part_typing p = typing p.1 p.0

-- the first fault among some parts, else the result for their types
abbrev over_types : List Typing → (List CelType → Typing) → Typing
over_types [] f = f []
over_types (x ∷ xs) f = with_type x (λ t. over_types xs (λ ts. f (t ∷ ts)))

abbrev over_parts : List (Scope × Tree) → (List CelType → Typing) → Typing
over_parts ps f = over_types (map part_typing ps) f

over_trees : (items : Trees) (s : Scope) (last : Typing) → with_types (typings items s) last ≡ over_parts (in_scope s (tree_list items)) (λ ts. last)
unfolding typing
over_trees no_trees s last = refl
over_trees (more_trees a more) s last = λ j. with_type (typing a s) (λ t. over_trees more s last j)

-- a type is a text key if it may be a string
keyed : (x : Typing) (g : CelType → Bool → Typing) → with_type x (λ t. g t (is_text_key x)) ≡ with_type x (λ t. g t (allowed (type.String ∷ []) t))
keyed x g = grind arith

over_entries : (es : TreeEntries) (s : Scope) (f : Bool → Typing)
    → with_types (entry_typings es s) (f (list_all is_text_key (key_typings es s))) ≡ over_parts (in_scope s (keys_and_values es)) (λ ts. f (text_keys ts))
unfolding typing
over_entries no_entries s f = refl
over_entries (more_entries k v more) s f =
    keyed (typing k s) (λ t b. with_type (typing v s) (λ u. with_types (entry_typings more s) (f (b && list_all is_text_key (key_typings more s)))))
    ∙ (λ j. with_type (typing k s) (λ t. with_type (typing v s) (λ u. over_entries more s (λ b. f (allowed (type.String ∷ []) t && b)) j)))

selection_over : (b : Bool) (a : Tree) (f : List ℕ) (s : Scope)
    → selected_type b f (typing a s) s ≡ over_parts (if b then [] else in_scope s (a ∷ [])) (select_node b f s)
selection_over b a f s = grind arith

has_over : (b : Bool) (a : Tree) (f : List ℕ) (g : Option Function) (s : Scope)
    → call_type b (Some f) g (typing a s) (typing (tree.select a f) s)
    ≡ over_parts (in_scope s ((if b then a else tree.select a f) ∷ [])) (on_one (λ x. call_type b (Some f) g (typed x) (typed x)))
has_over b a f g s = grind arith

call_over : (b : Bool) (g : Option Function) (x y : Typing) → call_type b None g x y ≡ with_type y (λ t. call_type b None g (typed t) (typed t))
call_over b g x y = grind arith

fold_over : (m : Option Macro) (a p : Tree) (i : List ℕ) (s : Scope)
    → fold_type m (Some i) (typing a s) (λ n. typing p (within n s)) (typing a s ∷ typing (tree.name i) s ∷ typing p s ∷ [])
    ≡ over_parts ((s, a) ∷ (if is_some m then in_scope (within i s) (p ∷ []) else in_scope s (tree.name i ∷ p ∷ []))) (fold_node m (Some i))
fold_over m a p i s = grind arith

no_fold : (m : Option Macro) (a x p : Tree) (s : Scope)
    → fold_type m None (typing a s) (λ n. typing p (within n s)) (typing a s ∷ typing x s ∷ typing p s ∷ [])
    ≡ over_parts (in_scope s (a ∷ x ∷ p ∷ [])) (fold_node m None)
no_fold m a x p s = grind arith

fold_map_over : (b : Bool) (a p t : Tree) (i : List ℕ) (s : Scope)
    → fold_map_type b (Some i) (typing a s) (λ n. typing p (within n s)) (λ n. typing t (within n s))
    (typing a s ∷ typing (tree.name i) s ∷ typing p s ∷ typing t s ∷ [])
    ≡ over_parts ((s, a) ∷ (if b then in_scope (within i s) (p ∷ t ∷ []) else in_scope s (tree.name i ∷ p ∷ t ∷ []))) (fold_map_node b (Some i))
fold_map_over b a p t i s = grind arith

no_fold_map : (b : Bool) (a x p t : Tree) (s : Scope)
    → fold_map_type b None (typing a s) (λ n. typing p (within n s)) (λ n. typing t (within n s))
    (typing a s ∷ typing x s ∷ typing p s ∷ typing t s ∷ [])
    ≡ over_parts (in_scope s (a ∷ x ∷ p ∷ t ∷ [])) (fold_map_node b None)
no_fold_map b a x p t s = grind arith

no_method : (a : Tree) (items : Trees) (s : Scope)
    → with_types (typing a s ∷ typings items s) (refused NoOverload) ≡ over_parts (in_scope s (a ∷ tree_list items)) (λ ts. refused NoOverload)
no_method a items s = grind (arith, over_trees)

by_parts : (e : Tree) (s : Scope) → typing e s ≡ over_parts (parts_of s e) (node s e)
unfolding typing
by_parts (tree.select a f) s = selection_over (is_variables a) a f s
by_parts (tree.list items) s = over_trees items s (typed type.List)
by_parts (tree.map es) s = over_entries es s map_literal_row
by_parts (tree.call n (more_trees (tree.select a f) no_trees)) s = has_over (is_has n) a f (function_named n) s
by_parts (tree.call n (more_trees a no_trees)) s = call_over (is_has n) (function_named n) (operand_typing a s) (typing a s)
by_parts (tree.call n arguments) s = over_trees arguments s (refused NoOverload)
by_parts (tree.method a n (more_trees (tree.name i) (more_trees p no_trees))) s = fold_over (macro_named n) a p i s
by_parts (tree.method a n (more_trees (tree.name i) (more_trees p (more_trees t no_trees)))) s = fold_map_over (is_map n) a p t i s
by_parts (tree.method a n (more_trees x (more_trees p no_trees))) s = no_fold (macro_named n) a x p s
by_parts (tree.method a n (more_trees x (more_trees p (more_trees t no_trees)))) s = no_fold_map (is_map n) a x p t s
by_parts (tree.method a n (more_trees x (more_trees p (more_trees t (more_trees u more))))) s = no_method a (more_trees x (more_trees p (more_trees t (more_trees u more)))) s
by_parts _ s = refl

-- ---- the rows give the typing

abbrev Gives : Scope → Tree → Typing → Type 0
Gives s e (typed t) = Has s e t
Gives s e (refused y) = Fault s e y

mutual
  has_typed : {s : Scope} {e : Tree} {t : CelType} → Has s e t → typing e s ≡ typed t
  has_typed (by_row {s} {e} {ts} {t} h r) = by_parts e s ∙ have_typed h (node s e) ∙ row_typed s r

  have_typed : {ps : List (Scope × Tree)} {ts : List CelType} → Have ps ts → (f : List CelType → Typing) → over_parts ps f ≡ f ts
  have_typed no_parts f = refl
  have_typed (next_part {s} {e} {t} {more} {ts} h rest) f =
      ap (λ x. with_type x (λ u. over_parts more (λ us. f (u ∷ us)))) (has_typed h) ∙ have_typed rest (λ us. f (t ∷ us))

typed_only : {t : CelType} {y : TypeFault} → typed t ≡ refused y → ⊥
typed_only e = grind arith

-- a node without a row has its cause as fault
no_row : (s : Scope) (e : Tree) (ts : List CelType) → ((t : CelType) → IsRow s e ts t → ⊥) → (r : Typing) → Answered s e ts r → r ≡ refused (cause e)
no_row s e ts none h0 h = grind arith

mutual
  fault_refused : {s : Scope} {e : Tree} {y : TypeFault} → Fault s e y → typing e s ≡ refused y
  fault_refused (in_part {s} {e} h) = by_parts e s ∙ among_refused h (node s e)
  fault_refused (at_node {s} {e} {ts} h none) = by_parts e s ∙ have_typed h (node s e) ∙ no_row s e ts none (node s e ts) (node_rows s e ts)

  among_refused : {ps : List (Scope × Tree)} {y : TypeFault} → FirstFault ps y → (f : List CelType → Typing) → over_parts ps f ≡ refused y
  among_refused (here {s} {e} {more} h) f = ap (λ x. with_type x (λ u. over_parts more (λ us. f (u ∷ us)))) (fault_refused h)
  among_refused (behind {s} {e} {t} {more} h rest) f =
      ap (λ x. with_type x (λ u. over_parts more (λ us. f (u ∷ us)))) (has_typed h) ∙ among_refused rest (λ us. f (t ∷ us))

-- ---- each tree has a type or a fault

abbrev AllGiven : List (Scope × Tree) → Type 0
AllGiven [] = ⊤
AllGiven (p ∷ ps) = Gives p.0 p.1 (part_typing p) × AllGiven ps

abbrev Walked : List (Scope × Tree) → Type 0
Walked ps = ((ts : List CelType) × Have ps ts) ⊎ ((y : TypeFault) × FirstFault ps y)

walked : (ps : List (Scope × Tree)) → AllGiven ps → Walked ps
walked [] h = inl ([], no_parts)
walked (p ∷ ps) h = by (part_typing p) h.0 (walked ps h.1)
  where
    by : (r : Typing) → Gives p.0 p.1 r → Walked ps → Walked (p ∷ ps)
    by (typed t) g (inl m) = inl (t ∷ m.0, next_part g m.1)
    by (typed t) g (inr m) = inr (m.0, behind g m.1)
    by (refused y) g m = inr (y, here g)

at : (s : Scope) (e : Tree) (ts : List CelType) → Have (parts_of s e) ts → (r : Typing) → node s e ts ≡ r → Answered s e ts r → Gives s e r
at s e ts m r is row = grind (arith, by_row, at_node, row_typed)

from_parts : (s : Scope) (e : Tree) → AllGiven (parts_of s e) → Gives s e (typing e s)
from_parts s e h = grind (arith, walked (parts_of s e) h, by_parts e s, have_typed, among_refused, at, node_rows, in_part)

mutual
  given : (e : Tree) (s : Scope) → Gives s e (typing e s)
  given (tree.literal l) s = from_parts s (tree.literal l) tt
  given (tree.name n) s = from_parts s (tree.name n) tt
  given (tree.select a f) s = from_parts s (tree.select a f) (grind (arith, given a s))
  given (tree.index a k) s = from_parts s (tree.index a k) (given a s, (given k s, tt))
  given (tree.unary o a) s = from_parts s (tree.unary o a) (given a s, tt)
  given (tree.binary o a b) s = from_parts s (tree.binary o a b) (given a s, (given b s, tt))
  given (tree.ternary c a b) s = from_parts s (tree.ternary c a b) (given c s, (given a s, (given b s, tt)))
  given (tree.list items) s = from_parts s (tree.list items) (all_given items s)
  given (tree.map es) s = from_parts s (tree.map es) (entries_given es s)
  given (tree.call n (more_trees (tree.select a f) no_trees)) s =
      from_parts s (tree.call n (more_trees (tree.select a f) no_trees)) (grind (arith, given a s, given (tree.select a f) s))
  given (tree.call n (more_trees a no_trees)) s = from_parts s (tree.call n (more_trees a no_trees)) (given a s, tt)
  given (tree.call n arguments) s = from_parts s (tree.call n arguments) (all_given arguments s)
  given (tree.method a n no_trees) s = from_parts s (tree.method a n no_trees) (given a s, tt)
  given (tree.method a n (more_trees (tree.name i) (more_trees p no_trees))) s =
      from_parts s (tree.method a n (more_trees (tree.name i) (more_trees p no_trees)))
      (grind (arith, given a s, given p (within i s), given (tree.name i) s, given p s))
  given (tree.method a n (more_trees (tree.name i) (more_trees p (more_trees t no_trees)))) s =
      from_parts s (tree.method a n (more_trees (tree.name i) (more_trees p (more_trees t no_trees))))
      (grind (arith, given a s, given p (within i s), given t (within i s), given (tree.name i) s, given p s, given t s))
  given (tree.method a n arguments) s = from_parts s (tree.method a n arguments) (given a s, all_given arguments s)

  all_given : (items : Trees) (s : Scope) → AllGiven (in_scope s (tree_list items))
  all_given no_trees s = tt
  all_given (more_trees a more) s = (given a s, all_given more s)

  entries_given : (es : TreeEntries) (s : Scope) → AllGiven (in_scope s (keys_and_values es))
  entries_given no_entries s = tt
  entries_given (more_entries k v more) s = (given k s, (given v s, entries_given more s))

pub types_are_rows : TypesAreRows
types_are_rows e s t = (λ is. subst (λ (r : Typing). Gives s e r) is (given e s), has_typed)

pub faults_are_first : FaultsAreFirst
faults_are_first e s y = (λ is. subst (λ (r : Typing). Gives s e r) is (given e s), fault_refused)

same_typed : {t u : CelType} → typed t ≡ typed u → t ≡ u
same_typed e = grind arith

same_refused : {y z : TypeFault} → refused y ≡ refused z → y ≡ z
same_refused e = grind arith

either_given : (s : Scope) (e : Tree) (r : Typing) → Gives s e r → ((t : CelType) × Has s e t) ⊎ ((y : TypeFault) × Fault s e y)
either_given s e r h = grind arith

pub one_type_or_fault : OneTypeOrFault
one_type_or_fault = record {
  one = λ s e. either_given s e (typing e s) (given e s);
  one_type = λ s e t u h k. same_typed (sym (has_typed h) ∙ has_typed k);
  one_fault = λ s e y z h k. same_refused (sym (fault_refused h) ∙ fault_refused k);
  never_both = λ s e t y h k. typed_only (sym (has_typed h) ∙ fault_refused k);
}
