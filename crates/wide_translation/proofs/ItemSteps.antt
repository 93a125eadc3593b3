-- Items of list literals and entries of map literals, one more at a time.
use Rattle.std.proofs.Common.{◌≡◌, ℕ, zero, suc, false, ◌+◌, ◌<◌, ◌≤◌, List, [], ◌∷◌, ◌++◌, Option, Some, None}
use Rattle.std.proofs.Common.{length}
use Rattle.std.proofs.Common.{get_or, drop, map, ap, sym, subst, ◌∙◌, refl, arith, Result}
use Rattle.std.proofs.lemmas.List.{map-append}
use Rattle.std.specs.declared.alloc.Global.{Global}
use Rattle.std.specs.declared.vec.Vec.{Vec}
use Rattle.cel_reader.specs.Tree as node
use Rattle.cel_reader.specs.Tree.{Tree, Trees, trees}
use Rattle.cel_reader.specs.declared.expr.Expr.{Expr}
use Rattle.cel_reader.specs.declared.operator.BinaryOperator.{TheVariants.Add}
use Rattle.wide_reader.specs.Tree as wide
use Rattle.wide_reader.specs.declared.wide.Access.{Access, TheVariants.Plain, TheVariants.Optional}
use Rattle.wide_reader.specs.declared.wide.Wide.{Wide as CodeWide}
use Rattle.wide_kinds.specs.declared.kind.ValueKind.TheVariants as kind
use Rattle.wide_translation.specs.Carried.{plain, listed, WideFault}
use Rattle.wide_translation.specs.Carried.{Translation, taken, refused}
use Rattle.wide_translation.specs.Declarations.{IsRefusal, ReturnsCarried, fault_of, is_memory}
use Rattle.wide_translation.specs.declared.carried.Carried.{Carried as CodeCarried}
use Rattle.wide_translation.specs.Segments.{segment_view, segment_tree, joined, items_more, after}
use Rattle.wide_translation.specs.Segments.{after_parts as parts_of, joined_parts}
use Rattle.wide_translation.specs.declared.lists.ListParts.{ListParts}
use Rattle.wide_translation.specs.declared.translation_error.TranslationError.{TranslationError}
use Rattle.wide_translation.specs.Scope.{WideScope}
use Rattle.wide_translation.specs.Translated.{Parts, parts, no_parts, joined_tree, list_more, one_more}
use Rattle.wide_translation.specs.Translated.{list_translation}
unfoldable use Rattle.wide_translation.specs.Translated.{translated, items_translated, entries_translated}

pub dropped : {A : Type 0} (xs : List A) (i : ℕ) (x : A) → i < length xs → x ≡ get_or xs i x → drop i xs ≡ x ∷ drop (i + 1) xs
dropped [] i x h e = absurd (omega arith)
dropped (a ∷ xs) zero x h e = grind arith
dropped (a ∷ xs) (suc i) x h e = grind (arith, dropped xs i x)

pub all_dropped : {A : Type 0} (xs : List A) (i : ℕ) → length xs ≤ i → drop i xs ≡ []
all_dropped [] zero h = refl
all_dropped [] (suc i) h = refl
all_dropped (a ∷ xs) zero h = absurd (omega arith)
all_dropped (a ∷ xs) (suc i) h = all_dropped xs i (omega arith)

-- ---- segments

pub joined_more : (ps : List (List Tree × Tree)) (p : List Tree × Tree) (t : Tree) → joined (ps ++ p ∷ []) t ≡ joined ps (segment_tree p t)
joined_more [] p t = refl
joined_more (q ∷ ps) p t = ap (segment_tree q) (joined_more ps p t)

items_fault : (last : List Tree) (f : WideFault) → items_more last (no_parts f) ≡ no_parts f
items_fault [] f = refl
items_fault (a ∷ last) f = ap (one_more Plain (taken (plain kind.Dyn a))) (items_fault last f)

pub after_fault : (ps : List (List Tree × Tree)) (last : List Tree) (f : WideFault) → after ps last (no_parts f) ≡ no_parts f
after_fault [] last f = items_fault last f
after_fault (p ∷ ps) last f = ap (λ x. items_more p.0 (list_more (listed kind.Dyn p.1) x)) (after_fault ps last f) ∙ items_fault p.0 f

items_item : (last : List Tree) (t : Tree) (x : Parts) → items_more last (one_more Plain (taken (plain kind.Dyn t)) x) ≡ items_more (last ++ t ∷ []) x
items_item [] t x = refl
items_item (a ∷ last) t x = ap (one_more Plain (taken (plain kind.Dyn a))) (items_item last t x)

pub after_item : (ps : List (List Tree × Tree)) (last : List Tree) (t : Tree) (x : Parts) → after ps last (one_more Plain (taken (plain kind.Dyn t)) x) ≡ after ps (last ++ t ∷ []) x
after_item [] last t x = items_item last t x
after_item (p ∷ ps) last t x = ap (λ y. items_more p.0 (list_more (listed kind.Dyn p.1) y)) (after_item ps last t x)

pub after_list : (ps : List (List Tree × Tree)) (last : List Tree) (l : Tree) (x : Parts) → after ps last (list_more (listed kind.Dyn l) x) ≡ after (ps ++ (last, l) ∷ []) [] x
after_list [] last l x = refl
after_list (p ∷ ps) last l x = ap (λ y. items_more p.0 (list_more (listed kind.Dyn p.1) y)) (after_list ps last l x)

-- ---- the code's lists

pub value_added : (ps : List (List Tree × Tree)) (items : List Expr) (a : Expr) (x : Parts)
    → after ps (map node.view items) (one_more Plain (taken (plain kind.Dyn (node.view a))) x) ≡ after ps (map node.view (items ++ a ∷ [])) x
value_added ps items a x = after_item ps (map node.view items) (node.view a) x ∙ ap (λ l. after ps l x) (sym (map-append node.view items (a ∷ [])))

pub list_added : (ps : List (Vec Expr Global × Expr)) (items : Vec Expr Global) (l : Expr) (x : Parts)
    → after (map segment_view ps) (map node.view items.items) (list_more (listed kind.Dyn (node.view l)) x) ≡ after (map segment_view (ps ++ (items, l) ∷ [])) [] x
list_added ps items l x =
    after_list (map segment_view ps) (map node.view items.items) (node.view l) x ∙ ap (λ qs. after qs [] x) (sym (map-append segment_view ps ((items, l) ∷ [])))

pub joined_popped : (ps : List (Vec Expr Global × Expr)) (p : Vec Expr Global × Expr) (t : Tree) → joined (map segment_view (ps ++ p ∷ [])) t ≡ joined (map segment_view ps) (segment_tree (segment_view p) t)
joined_popped ps p t = ap (λ qs. joined qs t) (map-append segment_view ps (p ∷ [])) ∙ joined_more (map segment_view ps) (segment_view p) t

pub joined_none : (ps : List (Vec Expr Global × Expr)) (t : Tree) → length ps ≡ 0 → joined (map segment_view ps) t ≡ t
joined_none [] t h = refl
joined_none (p ∷ ps) t h = absurd (omega arith)

pub segment_none : (items : List Expr) (l t : Tree) → length items ≡ 0 → segment_tree (map node.view items, l) t ≡ node.binary Add l t
segment_none [] l t h = refl
segment_none (a ∷ items) l t h = absurd (omega arith)

pub segment_some : (items : List Expr) (l t : Tree) → 0 < length items → segment_tree (map node.view items, l) t ≡ node.binary Add (node.list (trees (map node.view items))) (node.binary Add l t)
segment_some [] l t h = absurd (omega arith)
segment_some (a ∷ items) l t h = refl

-- ---- the list of all segments

plain_parts : (last : List Tree) (u : Option (Tree × Tree)) → items_more last (parts node.no_trees u) ≡ parts (trees last) u
plain_parts [] u = refl
plain_parts (a ∷ last) u = ap (one_more Plain (taken (plain kind.Dyn a))) (plain_parts last u)

first_items : List (List Tree × Tree) → List Tree → Trees
first_items [] last = trees last
first_items (p ∷ ps) last = trees p.0

first_rest : List (List Tree × Tree) → List Tree → Option (Tree × Tree)
first_rest [] last = None
first_rest (p ∷ ps) last = Some (p.1, joined ps (node.list (trees last)))

first_tree : (ps : List (List Tree × Tree)) (last : List Tree) → joined_tree (first_items ps last) (first_rest ps last) ≡ joined ps (node.list (trees last))
unfolding first_items first_rest
first_tree [] [] = refl
first_tree [] (a ∷ last) = refl
first_tree (([], l) ∷ ps) last = refl
first_tree ((a ∷ more, l) ∷ ps) last = refl

after_parts : (ps : List (List Tree × Tree)) (last : List Tree) → after ps last (parts node.no_trees None) ≡ parts (first_items ps last) (first_rest ps last)
unfolding first_items first_rest
after_parts [] last = plain_parts last None
after_parts (p ∷ ps) last =
    ap (λ x. items_more p.0 (list_more (listed kind.Dyn p.1) x)) (after_parts ps last)
    ∙ plain_parts p.0 (Some (p.1, joined_tree (first_items ps last) (first_rest ps last)))
    ∙ ap (λ t. parts (trees p.0) (Some (p.1, t))) (first_tree ps last)

list_of_all : (ps : List (List Tree × Tree)) (last : List Tree) → list_translation (after ps last (parts node.no_trees None)) ≡ taken (plain kind.List (joined ps (node.list (trees last))))
list_of_all ps last = ap list_translation (after_parts ps last) ∙ ap (λ t. taken (plain kind.List t)) (first_tree ps last)

-- ---- items

-- the items of the code
abbrev pub given_items : WideScope → List (Access × CodeWide) → Parts
given_items s es = items_translated s (wide.items (map wide.item_view es))

-- one more item
pub item_next : (s : WideScope) (given : List (Access × CodeWide)) (i : ℕ) (x : Access × CodeWide) (before more : Parts → Parts) → i < length given → x ≡ get_or given i x
    → ((ps : Parts) → before (one_more x.0 (translated s (wide.view x.1)) ps) ≡ more ps)
    → before (given_items s (drop i given)) ≡ more (given_items s (drop (i + 1) given))
unfolding translated
item_next s given i x before more h e r =
    ap (λ ys. before (given_items s ys)) (dropped given i x h e) ∙ r (given_items s (drop (i + 1) given))

-- an item that is refused
pub part_refused : (o : Access) (f : WideFault) (x : Parts) → one_more o (refused f) x ≡ no_parts f
part_refused Plain f x = refl
part_refused Optional f x = refl

pub item_refused : (s : WideScope) (given : List (Access × CodeWide)) (i : ℕ) (x : Access × CodeWide) (f : WideFault) (ps : List (List Tree × Tree)) (last : List Tree)
    → i < length given → x ≡ get_or given i x → ((y : Parts) → one_more x.0 (translated s (wide.view x.1)) y ≡ no_parts f)
    → list_translation (after ps last (given_items s (drop i given))) ≡ refused f
unfolding translated
item_refused s given i x f ps last h e r =
    ap list_translation
    (ap (λ ys. after ps last (given_items s ys)) (dropped given i x h e)
    ∙ ap (after ps last) (r (given_items s (drop (i + 1) given)))
    ∙ after_fault ps last f)

-- no more items
pub items_end : (s : WideScope) (given : List (Access × CodeWide)) (i : ℕ) (ps : List (List Tree × Tree)) (last : List Tree) → length given ≤ i
    → list_translation (after ps last (given_items s (drop i given))) ≡ taken (plain kind.List (joined ps (node.list (trees last))))
unfolding translated
items_end s given i ps last h = ap (λ ys. list_translation (after ps last (given_items s ys))) (all_dropped given i h) ∙ list_of_all ps last

-- ---- what the code returns, from its list so far

pub items_refusal : (s : WideScope) (given : List (Access × CodeWide)) (i : ℕ) (x : Access × CodeWide) (e : TranslationError) (so_far : ListParts) (all : Parts)
    → all ≡ parts_of so_far (given_items s (drop i given)) → i < length given → x ≡ get_or given i x
    → (is_memory e ≡ false → (ps : Parts) → one_more x.0 (translated s (wide.view x.1)) ps ≡ no_parts (fault_of e)) → IsRefusal (list_translation all) e
items_refusal s given i x e so_far all inv h is r =
    λ m. ap list_translation inv ∙ item_refused s given i x (fault_of e) (map segment_view so_far.segments.items) (map node.view so_far.last.items) h is (r m)

pub items_whole : (s : WideScope) (given : List (Access × CodeWide)) (i : ℕ) (so_far : ListParts) (all : Parts) (r : Result CodeCarried TranslationError)
    → all ≡ parts_of so_far (given_items s (drop i given)) → length given ≤ i → ReturnsCarried (taken (plain kind.List (joined_parts so_far))) r
    → ReturnsCarried (list_translation all) r
items_whole s given i so_far all r inv h is =
    subst (λ (t : Translation). ReturnsCarried t r)
    (sym (ap list_translation inv ∙ items_end s given i (map segment_view so_far.segments.items) (map node.view so_far.last.items) h)) is
