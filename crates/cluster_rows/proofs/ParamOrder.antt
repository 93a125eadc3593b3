-- The objects of a state are in the order of their names, and so are params.
use Rattle.cluster_state.proofs.Prelude.{◌≡◌, ◌∙◌, ◌∷◌, ◌&&◌, ℕ, Bool, true, false, List, [], Option, Some, None, Result, Ok, Err, ap, cond, refl, sym, Equal, Greater, Less, Ordering, bytes_eq, insert_entry, is_eq, is_eq-slice_cmp, match_ordering, nat_cmp, slice_cmp, if◌then◌else◌, Binding, BoundPolicy, ClusterState, Collection, Item, Named, Objects, Refusal, bindings_in, bindings_then, by_labels, chosen, duplicate_item, is_collection, is_taken, items_of, items_then, no_objects, object_named, objects_of, policies, policies_in, policies_then, state_with, with_item, with_items, with_name, bindings}
use Rattle.serde_json.specs.Data as json
use Rattle.std.proofs.Common.{◌==◌, length, subst}
use Rattle.std.proofs.lemmas.Cmp.{nat_list_cmp_total}
use Rattle.std.proofs.lemmas.List.Elements.{All-cons, All-head, All-nil, All-tail}
use Rattle.std.proofs.lemmas.Slice.Eq.{bytes_eq-Decides}
use Rattle.std.specs.List.{All, AllByRecursion, filter}
use Rattle.std.specs.List.Sorted.{IsStrictlySortedBy}
use Rattle.std.specs.Map.{keys_of}
use Rattle.std.specs.Option.{option_to_list}
use Rattle.std.specs.Ordering.{ordering_reverse}
use Rattle.label_selectors.specs.Selectors.{selects}
use Rattle.admission_documents.specs.Selectors.{labels_in}
use Rattle.cluster_state.specs.Bindings.{ParamChoice, by_name}
use Rattle.cluster_rows.specs.ParamOrder.{AreByName, AreSomeByName, ParamsAreByName}
use Rattle.cluster_state.specs.Params.{has_needless_namespace, if_found, lacks_namespace, params_place}
use Rattle.cluster_state.specs.Refusals.{no_namespace}
use Rattle.cluster_state.specs.State.{if_has_namespace, namespaces}
use Rattle.cluster_state.specs.declared.param_error.ParamError.{ParamError}
use Rattle.cluster_state.specs.declared.param_error.ParamError.TheVariants.{ClusterScopedRequest, NeedlessNamespace, NotFound}

-- a name is before all of these
abbrev Below : List ℕ → List (List ℕ) → Type 0
Below k ks = AllByRecursion (λ y. slice_cmp nat_cmp k y ≡ Less) ks

flip_less : (a b : List ℕ) → slice_cmp nat_cmp a b ≡ Less → slice_cmp nat_cmp b a ≡ Greater
flip_less a b l = nat_list_cmp_total.antisymm b a ∙ ap ordering_reverse l

flip_greater : (a b : List ℕ) → slice_cmp nat_cmp a b ≡ Greater → slice_cmp nat_cmp b a ≡ Less
flip_greater a b g = nat_list_cmp_total.antisymm b a ∙ ap ordering_reverse g

below_all : (a b : List ℕ) (ks : List (List ℕ)) → slice_cmp nat_cmp a b ≡ Less → Below b ks → Below a ks
below_all a b [] l h = tt
below_all a b (k ∷ ks) l h = (nat_list_cmp_total.trans a b k l h.0, below_all a b ks l h.1)

-- ---- a name is inserted

below_inserted : (k : List ℕ) (es : Named) (n : List ℕ) (d : json.Data) → slice_cmp nat_cmp k n ≡ Less → Below k (keys_of es)
    → Below k (keys_of (insert_entry (slice_cmp nat_cmp) es n d))
below_inserted k [] n d l h = (l, tt)
below_inserted k (e ∷ es) n d l h = by (slice_cmp nat_cmp n e.0) (below_inserted k es n d l h.1)
  where
    by : (o : Ordering) → Below k (keys_of (insert_entry (slice_cmp nat_cmp) es n d))
        → Below k (keys_of (match_ordering o ((n, d) ∷ e ∷ es) ((e.0, d) ∷ es) (e ∷ insert_entry (slice_cmp nat_cmp) es n d)))
    by Less later = (l, h)
    by Equal later = h
    by Greater later = (h.0, later)

inserted : (es : Named) (n : List ℕ) (d : json.Data) → AreByName es → AreByName (insert_entry (slice_cmp nat_cmp) es n d)
unfolding IsStrictlySortedBy
inserted [] n d s = (tt, tt)
inserted (e ∷ es) n d s = by (slice_cmp nat_cmp n e.0) refl (inserted es n d s.1)
  where
    by : (o : Ordering) → slice_cmp nat_cmp n e.0 ≡ o → AreByName (insert_entry (slice_cmp nat_cmp) es n d)
        → AreByName (match_ordering o ((n, d) ∷ e ∷ es) ((e.0, d) ∷ es) (e ∷ insert_entry (slice_cmp nat_cmp) es n d))
    by Less is later = ((is, below_all n e.0 (keys_of es) is s.0), s)
    by Equal is later = s
    by Greater is later = (below_inserted e.0 es n d (flip_greater n e.0 is) s.0, later)

-- ---- all items are added

abbrev AllByName : Objects → Type 0
AllByName o = (c : Collection) → AreByName (o c)

with_one : (o : Objects) (i : Item) → AllByName o → AllByName (with_item o i)
with_one o i s c = by (is_collection i.collection c)
  where
    by : (b : Bool) → AreByName (if b then with_name o i else o c)
    by true = inserted (o i.collection) i.name i.document (s i.collection)
    by false = s c

with_all : (is : List Item) (o r : Objects) → AllByName o → with_items o is ≡ Ok r → AllByName r
with_all [] o r s e = let same : o ≡ r = cc in subst AllByName same s
with_all (i ∷ is) o r s e = by (is_taken o i) e (with_all is (with_item o i) r (with_one o i s))
  where
    by : (b : Bool) → ◌≡◌ {A = Result Objects Refusal} (if b then Err (duplicate_item i.name) else with_items (with_item o i) is) (Ok r)
        → (with_items (with_item o i) is ≡ Ok r → AllByName r) → AllByName r
    by true h later = absurd (cc)
    by false h later = later h

none_by_name : AllByName no_objects
unfolding IsStrictlySortedBy
none_by_name c = tt

-- ---- the objects of a state

from_policies : (is : List Item) (o : Objects) (bs : List Binding) (ps : Result (List BoundPolicy) Refusal) (s : ClusterState) → state_with is o bs ps ≡ Ok s → o ≡ s.objects
from_policies is o bs (Ok ps) s e =
    let same : record { items = is; objects = o; bindings = bs; policies = ps } ≡ s = cc in ap (λ (t : ClusterState). t.objects) same
from_policies is o bs (Err x) s e = absurd (cc)

from_bindings : (is : List Item) (o : Objects) (bs : Result (List Binding) Refusal) (s : ClusterState) → policies_then is o bs ≡ Ok s → o ≡ s.objects
from_bindings is o (Ok bs) s e = from_policies is o bs (policies_in bs (o policies)) s e
from_bindings is o (Err x) s e = absurd (cc)

from_objects : (is : List Item) (w : Result Objects Refusal) (s : ClusterState) → bindings_then is w ≡ Ok s → w ≡ Ok s.objects
from_objects is (Ok o) s e = ap Ok (from_bindings is o (bindings_in (o bindings)) s e)
from_objects is (Err x) s e = absurd (cc)

has_namespace : (w : Result Objects Refusal) (o : Objects) → if_has_namespace w ≡ Ok o → w ≡ Ok o
has_namespace (Err x) o e = absurd (cc)
has_namespace (Ok p) o e = by (length (p namespaces) == 0) e
  where
    by : (b : Bool) → ◌≡◌ {A = Result Objects Refusal} (if b then Err no_namespace else Ok p) (Ok o) → ◌≡◌ {A = Result Objects Refusal} (Ok p) (Ok o)
    by true h = absurd (cc)
    by false h = h

from_items : (r : Result (List Item) Refusal) (s : ClusterState) → items_then r ≡ Ok s → AllByName s.objects
from_items (Err x) s e = absurd (cc)
from_items (Ok is) s e =
    with_all is no_objects s.objects none_by_name (has_namespace (with_items no_objects is) s.objects (from_objects is (objects_of is) s e))

-- ---- params

not_first : (n k : List ℕ) → slice_cmp nat_cmp k n ≡ Less → bytes_eq n k ≡ false
not_first n k l = sym (is_eq-slice_cmp n k) ∙ ap is_eq (flip_less k n l)

found_first : (e : List ℕ × json.Data) (es : Named) → object_named e.0 (e ∷ es) ≡ Some e.1
found_first e es = ap (λ b. cond b (Some e.1) (object_named e.0 es)) ((bytes_eq-Decides e.0 e.0).1 refl)

found_later : (e o : List ℕ × json.Data) (es : Named) → slice_cmp nat_cmp e.0 o.0 ≡ Less → object_named o.0 es ≡ Some o.1 → object_named o.0 (e ∷ es) ≡ Some o.1
found_later e o es l h = ap (λ b. cond b (Some e.1) (object_named o.0 es)) (not_first o.0 e.0 l) ∙ h

all_later : (e : List ℕ × json.Data) (es some : Named) → Below e.0 (keys_of some) → All (λ o. object_named o.0 es ≡ Some o.1) some
    → All (λ o. object_named o.0 (e ∷ es) ≡ Some o.1) some
all_later e es [] l h = All-nil (λ o. object_named o.0 (e ∷ es) ≡ Some o.1)
all_later e es (o ∷ os) l h =
    All-cons (λ x. object_named x.0 (e ∷ es) ≡ Some x.1) o os (found_later e o es l.0 (All-head (λ x. object_named x.0 es ≡ Some x.1) o os h))
    (all_later e es os l.1 (All-tail (λ x. object_named x.0 es ≡ Some x.1) o os h))

below_filtered : (p : List ℕ × json.Data → Bool) (k : List ℕ) (os : Named) → Below k (keys_of os) → Below k (keys_of (filter p os))
below_filtered p k [] h = tt
below_filtered p k (o ∷ os) h = by (p o) (below_filtered p k os h.1)
  where
    by : (b : Bool) → Below k (keys_of (filter p os)) → Below k (keys_of (cond b (o ∷ filter p os) (filter p os)))
    by true later = (h.0, later)
    by false later = later

filtered : (p : List ℕ × json.Data → Bool) (os : Named) → AreByName os → AreByName (filter p os)
unfolding IsStrictlySortedBy
filtered p [] s = tt
filtered p (o ∷ os) s = by (p o) (filtered p os s.1)
  where
    by : (b : Bool) → AreByName (filter p os) → AreByName (cond b (o ∷ filter p os) (filter p os))
    by true later = (below_filtered p o.0 os s.0, later)
    by false later = later

found : (p : List ℕ × json.Data → Bool) (os : Named) → AreByName os → All (λ o. object_named o.0 os ≡ Some o.1) (filter p os)
unfolding IsStrictlySortedBy
found p [] s = All-nil (λ o. object_named o.0 [] ≡ Some o.1)
found p (e ∷ es) s = by (p e) (all_later e es (filter p es) (below_filtered p e.0 es s.0) (found p es s.1))
  where
    by : (b : Bool) → All (λ o. object_named o.0 (e ∷ es) ≡ Some o.1) (filter p es)
        → All (λ o. object_named o.0 (e ∷ es) ≡ Some o.1) (cond b (e ∷ filter p es) (filter p es))
    by true later = All-cons (λ o. object_named o.0 (e ∷ es) ≡ Some o.1) e (filter p es) (found_first e es) later
    by false later = later

one_by_name : (name : List ℕ) (os : Named) (w : Option json.Data) → object_named name os ≡ w → AreSomeByName os (option_to_list w)
unfolding IsStrictlySortedBy
one_by_name name os None is = record { some = []; are = refl; found = All-nil (λ o. object_named o.0 os ≡ Some o.1); in_order = tt }
one_by_name name os (Some d) is = record {
  some = (name, d) ∷ [];
  are = refl;
  found = All-cons (λ o. object_named o.0 os ≡ Some o.1) (name, d) [] is (All-nil (λ o. object_named o.0 os ≡ Some o.1));
  in_order = (tt, tt);
}

chosen_by_name : (c : ParamChoice) (os : Named) → AreByName os → AreSomeByName os (chosen c os)
chosen_by_name (by_name name) os s = one_by_name name os (object_named name os) refl
chosen_by_name (by_labels l) os s =
    let p : List ℕ × json.Data → Bool = λ o. selects l (labels_in o.1) in
    record { some = filter p os; are = refl; found = found p os s; in_order = filtered p os s }

if_none : (b : Bool) (x : ParamError) (r : Result (List json.Data) ParamError) (ds : List json.Data) → (if b then Err x else r) ≡ Ok ds → r ≡ Ok ds
if_none true x r ds e = absurd (cc)
if_none false x r ds e = e

pub params_are_by_name : ParamsAreByName
params_are_by_name lists s k r own ds read e =
    let place = params_place k.scope k.kind r.namespace own in
    let all : List json.Data = chosen r.choice (s.objects place) in
    let first = if_none (lacks_namespace k.scope r.namespace own) ClusterScopedRequest _ ds e in
    let second : if_found r.denies_absence all ≡ Ok ds = if_none (has_needless_namespace k.scope r.namespace) NeedlessNamespace _ ds first in
    let third : ◌≡◌ {A = Result (List json.Data) ParamError} (Ok all) (Ok ds) = if_none (r.denies_absence && (length all == 0)) NotFound (Ok all) ds second in
    let same : all ≡ ds = cc in
    subst (AreSomeByName (s.objects place)) same (chosen_by_name r.choice (s.objects place) (from_items (items_of lists) s read place))
