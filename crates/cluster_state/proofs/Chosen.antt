-- The documents that a binding selects as params.
use Rattle.cluster_state.proofs.Prelude.{◌≡◌, ◌∷◌, ℕ, Bool, true, false, List, [], Option, None, Some, Result, Ok, Err, ap, map, option_map, refl, Document, Entries, LabelSelector, Named, by_labels, chosen, named_view, view, if◌then◌else◌}
use Rattle.std.proofs.lemmas.List.Elements.{All-cons, All-filter, All-nil}
use Rattle.std.specs.List.{All}
use Rattle.std.specs.Map.{values_of}
use Rattle.std.specs.Option.{option_to_list}
use Rattle.std.specs.Prelude.{IfOk, IfSome, Vec}
use Rattle.std.specs.declared.alloc.AllocError.{AllocError}
use Rattle.std.specs.declared.alloc.Global.{Global}
use Rattle.label_selectors.specs.Selectors.{selects}
use Rattle.admission_documents.specs.Selectors.{labels_in}
use Rattle.cluster_state.specs.Items.{Item}
use Rattle.cluster_state.specs.Numbers.{AreNumbered, IsNumbered, selected_of}

kept : (b : Bool) (name : List ℕ) (d : Document) (ds : List Document) (os : Named) → map (λ x. view x.value.now) ds ≡ map (λ o. o.1) os
    → map (λ x. view x.value.now) (if b then d ∷ ds else ds) ≡ map (λ o. o.1) (if b then (name, view d.value.now) ∷ os else os)
kept true name d ds os e = ap (λ rest. view d.value.now ∷ rest) e
kept false name d ds os e = e

pub selected_view : (s : LabelSelector) (es : Entries) → map (λ d. view d.value.now) (selected_of s es) ≡ chosen (by_labels s) (named_view es)
selected_view s [] = refl
selected_view s (e ∷ es) = kept (selects s (labels_in (view e.1.value.now))) e.0.now e.1 _ _ (selected_view s es)

pub selected_numbered : (is : List Item) (s : LabelSelector) (es : Entries) → AreNumbered is es → All (IsNumbered is) (selected_of s es)
selected_numbered is s es are = All-filter (λ d. selects s (labels_in (view d.value.now))) (IsNumbered is) (values_of es) are

pub one_view : (o : Option Document) → map (λ d. view d.value.now) (option_to_list o) ≡ option_to_list (option_map (λ d. view d.value.now) o)
one_view None = refl
one_view (Some d) = refl

pub one_numbered : (is : List Item) (o : Option Document) → IfSome o (IsNumbered is) → All (IsNumbered is) (option_to_list o)
one_numbered is None h = All-nil (IsNumbered is)
one_numbered is (Some d) h = All-cons (IsNumbered is) d [] h (All-nil (IsNumbered is))

-- what holds of the documents that are returned
pub of_returned : (P Q : List Document → Type 0) (r : Result (Vec Document Global) AllocError) → ((ds : List Document) → P ds → Q ds)
    → IfOk r (λ v. P v.items) → IfOk r (λ v. Q v.items)
of_returned P Q (Ok v) f p = f v.items p
of_returned P Q (Err e) f p = p
