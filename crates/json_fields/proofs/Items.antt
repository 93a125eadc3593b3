-- Arrays that are read or changed item by item.
use Rattle.std.proofs.Common.{◌≡◌, ◌∙◌, ◌≤◌, ◌<◌, ◌+◌, ◌++◌, ◌∷◌, ℕ, List, [], Option, Some, None, ap, append_assoc, drop, get_or, length, map, refl, sym, take}
use Rattle.std.proofs.lemmas.List.{drop_more, take_all}
use Rattle.serde_json.specs.Data as json
use Rattle.serde_json.specs.View.{items_of, items_view, view}
use Rattle.serde_json.specs.declared.value.Value.{Value}
use Rattle.json_fields.specs.Fields.{cons_if, each, items_list}
use Rattle.json_fields.specs.Members.{each_changed}

pub listed : (ds : List json.Data) → items_list (items_of ds) ≡ ds
listed [] = refl
listed (d ∷ ds) = ap (λ es. d ∷ es) (listed ds)

-- the item at a place, and those after it
pub from_place : {A : Type 0} (xs : List A) (i : ℕ) (x : A) → i < length xs → x ≡ get_or xs i x → drop i xs ≡ x ∷ drop (i + 1) xs
from_place xs i x within is = drop_more xs i x within ∙ ap (λ y. y ∷ drop (i + 1) xs) (sym is)

-- ---- items that are read

abbrev pub all_before : {A : Type 0} → List A → Option (List A) → Option (List A)
all_before xs (Some ys) = Some (xs ++ ys)
all_before xs None = None

-- the parts of the items before `rest` are `done`
pub record EachGo {A : Type 0} (part : json.Data → Option A) (all rest : json.Items) (done : List A) : Type 0 where
  pub left : each part all ≡ all_before done (each part rest)

pub one_more : {A : Type 0} (done new : List A) (a : A) (part rest : Option (List A)) → part ≡ cons_if (Some a) rest → new ≡ done ++ a ∷ []
    → all_before done part ≡ all_before new rest
one_more done new a part (Some xs) is added = ap (all_before done) is ∙ ap Some (sym (append_assoc done (a ∷ []) xs)) ∙ ap (λ ys. Some (ys ++ xs)) (sym added)
one_more done new a part None is added = ap (all_before done) is

-- one more part is read
pub each_next : {A : Type 0} (part : json.Data → Option A) (all it rest : json.Items) (d : json.Data) (done new : List A) (a : A) → EachGo part all it done
    → it ≡ json.item d rest → part d ≡ Some a → new ≡ done ++ a ∷ [] → EachGo part all rest new
each_next part all it rest d done new a go is read added = record {
  left = go.left ∙ one_more done new a (each part it) (each part rest) (ap (each part) is ∙ ap (λ o. cons_if o (each part rest)) read) added;
}

-- ---- items that are changed

each_of : (f : json.Data → json.Data) (vs : List Value) → items_of (map (λ v. f (view v)) vs) ≡ each_changed f (items_view vs)
each_of f [] = refl
each_of f (v ∷ vs) = ap (json.item (f (view v))) (each_of f vs)

-- the loop that changes each item has changed all
pub all_changed : (f : json.Data → json.Data) (all made items : List Value) (i : ℕ) → all ≡ items → length all ≤ i → map view made ≡ map (λ v. f (view v)) (take i all)
    → items_view made ≡ each_changed f (items_view items)
all_changed f all made items i is past same =
    ap items_of (same ∙ ap (map (λ (v : Value). f (view v))) (take_all i all past)) ∙ each_of f all ∙ ap (λ (vs : List Value). each_changed f (items_view vs)) is
