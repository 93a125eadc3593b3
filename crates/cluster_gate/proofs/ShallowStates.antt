-- The documents of a state that is read from lists are nested no deeper than the lists.
use Rattle.cluster_gate.proofs.Prelude.{◌∷◌, ◌≤◌, ℕ, List, [], Bool, true, false, Option, Some, None, Result, Ok, Err, arith, subst, BoundPolicy}
use Rattle.std.proofs.Common.{◌+◌}
use Rattle.std.proofs.lemmas.List.Elements.{All-append, All-cons, All-head, All-nil, All-tail}
use Rattle.std.specs.BTreeMap.{insert_entry}
use Rattle.std.specs.Cmp.Lexicographic.{slice_cmp}
use Rattle.std.specs.List.{All}
use Rattle.std.specs.Ordering.{match_ordering, nat_cmp}
use Rattle.std.specs.Prelude.{◌==◌, if◌then◌else◌, codes, length}
use Rattle.std.specs.declared.cmp.Ordering.{Ordering}
use Rattle.std.specs.declared.cmp.Ordering.TheVariants.{Less, Equal, Greater}
use Rattle.serde_json.specs.Data as json
use Rattle.serde_json.specs.Find.{get, get_member}
use Rattle.serde_json.specs.Read.{max_depth}
use Rattle.admission_documents.specs.Documents.{field, present}
use Rattle.admission_documents.specs.Selectors.{labels_field}
use Rattle.admission_match.specs.Matching.{MatchResources}
use Rattle.cluster_state.specs.Bindings.{Binding, bindings_in}
use Rattle.cluster_state.specs.Items.{Collection, Item, are_labels, array_of, before, documents_in, if_read, is_list, is_read, item_before, item_from, item_in, item_parts, items_in, items_list, items_of, list_in}
use Rattle.cluster_state.specs.Items as items
use Rattle.cluster_state.specs.Objects.{Named, Objects, is_collection, is_taken, no_objects, with_item, with_items}
use Rattle.cluster_state.specs.Policies.{ParamKind, is_bound, policies_in, policy_before, policy_from, policy_in, policy_parts, policy_spec}
use Rattle.cluster_state.specs.Refusals.{Refusal, duplicate_item, no_namespace}
use Rattle.cluster_state.specs.State.{bindings, bindings_then, if_has_namespace, items_then, namespaces, objects_of, policies, policies_then, state_with}
use Rattle.cluster_gate.proofs.SameReading.{IsShallowIf}
use Rattle.cluster_gate.specs.Laws.{HasShallowDocuments, IsShallow, StatesAreShallow}

-- ---- fields

by_order : (o : Ordering) (a b : Option json.Data) → IsShallowIf a → IsShallowIf b → IsShallowIf (match_ordering o a b a)
by_order Less a b x y = x
by_order Equal a b x y = y
by_order Greater a b x y = x

member_is : (k : List ℕ) (ms : json.Members) → json.members_depth ms ≤ max_depth → IsShallowIf (get_member k ms)
member_is k json.no_members deep = tt
member_is k (json.member l e ms) deep = by_order (slice_cmp nat_cmp k l) (get_member k ms) (Some e) (member_is k ms (omega arith)) (omega arith)

got : (k : List ℕ) (d : json.Data) → IsShallow d → IsShallowIf (get k d)
got k json.null deep = tt
got k (json.boolean b) deep = tt
got k (json.number n) deep = tt
got k (json.string s) deep = tt
got k (json.array ds) deep = tt
got k (json.object ms) deep = member_is k ms (omega arith)

shown : (o : Option json.Data) → IsShallowIf o → IsShallowIf (present o)
shown None deep = tt
shown (Some json.null) deep = tt
shown (Some (json.boolean b)) deep = deep
shown (Some (json.number n)) deep = deep
shown (Some (json.string s)) deep = deep
shown (Some (json.array ds)) deep = deep
shown (Some (json.object ms)) deep = deep

its_field : (k : List ℕ) (d : json.Data) → IsShallow d → IsShallowIf (field k d)
unfolding field
its_field k d deep = shown (get k d) (got k d deep)

-- ---- lists

abbrev AreShallow : List json.Data → Type 0
AreShallow = All IsShallow

abbrev AreShallowIf : Option (List json.Data) → Type 0
AreShallowIf None = Unit {0}
AreShallowIf (Some ds) = AreShallow ds

abbrev IfRead : {A : Type 0} → (A → Type 0) → Result A Refusal → Type 0
IfRead P (Ok a) = P a
IfRead P (Err e) = Unit {0}

elements : (ds : json.Items) → json.items_depth ds ≤ max_depth → AreShallow (items_list ds)
elements json.no_items deep = All-nil IsShallow
elements (json.item d ds) deep = All-cons IsShallow d (items_list ds) (omega arith) (elements ds (omega arith))

of_array : (o : Option json.Data) → IsShallowIf o → AreShallowIf (array_of o)
of_array None deep = tt
of_array (Some json.null) deep = tt
of_array (Some (json.boolean b)) deep = tt
of_array (Some (json.number n)) deep = tt
of_array (Some (json.string s)) deep = tt
of_array (Some (json.array ds)) deep = elements ds (omega arith)
of_array (Some (json.object ms)) deep = tt

if_list : (b : Bool) (o : Option (List json.Data)) → AreShallowIf o → AreShallowIf (if b then o else None)
if_list true o deep = deep
if_list false o deep = tt

of_list : (d : json.Data) → IsShallow d → AreShallowIf (list_in d)
unfolding list_in
of_list d deep = if_list (is_list d) (array_of (field (codes "items") d)) (of_array (field (codes "items") d) (its_field (codes "items") d deep))

in_front : (place : ℕ) (o : Option (List json.Data)) (r : Result (List json.Data) Refusal) → AreShallowIf o → IfRead AreShallow r → IfRead AreShallow (before place o r)
in_front place None r deep rest = tt
in_front place (Some ds) (Ok es) deep rest = All-append IsShallow ds es deep rest
in_front place (Some ds) (Err e) deep rest = tt

in_lists : (place : ℕ) (ls : List json.Data) → AreShallow ls → IfRead AreShallow (documents_in place ls)
in_lists place [] deep = All-nil IsShallow
in_lists place (l ∷ ls) deep =
    in_front place (list_in l) (documents_in (place + 1) ls) (of_list l (All-head IsShallow l ls deep)) (in_lists (place + 1) ls (All-tail IsShallow l ls deep))

-- ---- items

abbrev IsShallowItem : Item → Type 0
IsShallowItem i = IsShallow i.document

abbrev IsShallowItemIf : Option Item → Type 0
IsShallowItemIf None = Unit {0}
IsShallowItemIf (Some i) = IsShallowItem i

from_parts : (d : json.Data) (a b c e : Option (List ℕ)) → IsShallow d → IsShallowItemIf (item_from d a b c e)
from_parts d None b c e deep = tt
from_parts d (Some a) None c e deep = tt
from_parts d (Some a) (Some b) None e deep = tt
from_parts d (Some a) (Some b) (Some c) None deep = tt
from_parts d (Some a) (Some b) (Some c) (Some e) deep = deep

its_parts : (d : json.Data) → IsShallow d → IsShallowItemIf (item_parts d)
unfolding item_parts
its_parts d deep = from_parts d _ _ _ _ deep

if_both : (b : Bool) (o : Option Item) → IsShallowItemIf o → IsShallowItemIf (if b then o else None)
if_both true o deep = deep
if_both false o deep = tt

if_it_is_read : (o : Option Item) → IsShallowItemIf o → IsShallowItemIf (if_read o)
if_it_is_read None deep = tt
if_it_is_read (Some i) deep = if_both (is_read i) (Some i) deep

one_item : (d : json.Data) → IsShallow d → IsShallowItemIf (item_in d)
one_item d deep = if_both (are_labels (labels_field d)) (if_read (item_parts d)) (if_it_is_read (item_parts d) (its_parts d deep))

item_first : (place : ℕ) (o : Option Item) (r : Result (List Item) Refusal) → IsShallowItemIf o → IfRead (All IsShallowItem) r → IfRead (All IsShallowItem) (item_before place o r)
item_first place None r deep rest = tt
item_first place (Some i) (Ok is) deep rest = All-cons IsShallowItem i is deep rest
item_first place (Some i) (Err e) deep rest = tt

each_item : (place : ℕ) (ds : List json.Data) → AreShallow ds → IfRead (All IsShallowItem) (items_in place ds)
each_item place [] deep = All-nil IsShallowItem
each_item place (d ∷ ds) deep =
    item_first place (item_in d) (items_in (place + 1) ds) (one_item d (All-head IsShallow d ds deep)) (each_item (place + 1) ds (All-tail IsShallow d ds deep))

items_from : (r : Result (List json.Data) Refusal) → IfRead AreShallow r → IfRead (All IsShallowItem) (items.items_then r)
items_from (Ok ds) deep = each_item 0 ds deep
items_from (Err e) deep = tt

all_items : (ls : List json.Data) → AreShallow ls → IfRead (All IsShallowItem) (items_of ls)
all_items ls deep = items_from (documents_in 0 ls) (in_lists 0 ls deep)

-- ---- objects

abbrev Shallow : Named → Type 0
Shallow os = All (λ (o : List ℕ × json.Data). IsShallow o.1) os

abbrev HaveShallow : Objects → Type 0
HaveShallow objects = (c : Collection) → Shallow (objects c)

put_by : (o : Ordering) (e : List ℕ × json.Data) (es : Named) (k : List ℕ) (v : json.Data) (rest : Named) → Shallow (e ∷ es) → IsShallow v → Shallow rest
    → Shallow (match_ordering o ((k, v) ∷ e ∷ es) ((e.0, v) ∷ es) (e ∷ rest))
put_by Less e es k v rest deep new more = All-cons (λ (o : List ℕ × json.Data). IsShallow o.1) (k, v) (e ∷ es) new deep
put_by Equal e es k v rest deep new more =
    All-cons (λ (o : List ℕ × json.Data). IsShallow o.1) (e.0, v) es new (All-tail (λ (o : List ℕ × json.Data). IsShallow o.1) e es deep)
put_by Greater e es k v rest deep new more =
    All-cons (λ (o : List ℕ × json.Data). IsShallow o.1) e rest (All-head (λ (o : List ℕ × json.Data). IsShallow o.1) e es deep) more

put_deep : (es : Named) (k : List ℕ) (v : json.Data) → Shallow es → IsShallow v → Shallow (insert_entry (slice_cmp nat_cmp) es k v)
put_deep [] k v deep new = All-cons (λ (o : List ℕ × json.Data). IsShallow o.1) (k, v) [] new (All-nil (λ (o : List ℕ × json.Data). IsShallow o.1))
put_deep (e ∷ es) k v deep new =
    put_by (slice_cmp nat_cmp k e.0) e es k v (insert_entry (slice_cmp nat_cmp) es k v) deep new
    (put_deep es k v (All-tail (λ (o : List ℕ × json.Data). IsShallow o.1) e es deep) new)

if_its : (b : Bool) (xs ys : Named) → Shallow xs → Shallow ys → Shallow (if b then xs else ys)
if_its true xs ys x y = x
if_its false xs ys x y = y

one_more : (objects : Objects) (i : Item) → HaveShallow objects → IsShallowItem i → HaveShallow (with_item objects i)
one_more objects i deep new c =
    if_its (is_collection i.collection c) (insert_entry (slice_cmp nat_cmp) (objects i.collection) i.name i.document) (objects c)
    (put_deep (objects i.collection) i.name i.document (deep i.collection) new) (deep c)

unless_taken : (b : Bool) (e : Refusal) (r : Result Objects Refusal) → IfRead HaveShallow r → IfRead HaveShallow (if b then Err e else r)
unless_taken true e r deep = tt
unless_taken false e r deep = deep

all_objects : (objects : Objects) (is : List Item) → HaveShallow objects → All IsShallowItem is → IfRead HaveShallow (with_items objects is)
all_objects objects [] deep new = deep
all_objects objects (i ∷ is) deep new =
    unless_taken (is_taken objects i) (duplicate_item i.name) (with_items (with_item objects i) is)
    (all_objects (with_item objects i) is (one_more objects i deep (All-head IsShallowItem i is new)) (All-tail IsShallowItem i is new))

if_some_namespace : (r : Result Objects Refusal) → IfRead HaveShallow r → IfRead HaveShallow (if_has_namespace r)
if_some_namespace (Err e) deep = tt
if_some_namespace (Ok objects) deep = unless_taken (length (objects namespaces) == 0) no_namespace (Ok objects) deep

-- ---- policies

abbrev IsShallowPolicy : BoundPolicy → Type 0
IsShallowPolicy p = IsShallow p.document

abbrev IsShallowPolicyIf : Option BoundPolicy → Type 0
IsShallowPolicyIf None = Unit {0}
IsShallowPolicyIf (Some p) = IsShallowPolicy p

policy_made : (name : List ℕ) (d : json.Data) (m : Option MatchResources) (k : Option (Option ParamKind)) → IsShallow d → IsShallowPolicyIf (policy_from name d m k)
policy_made name d None k deep = tt
policy_made name d (Some m) None deep = tt
policy_made name d (Some m) (Some k) deep = deep

policy_parts_deep : (name : List ℕ) (d spec : json.Data) → IsShallow d → IsShallowPolicyIf (policy_parts name d spec)
unfolding policy_parts
policy_parts_deep name d spec deep = policy_made name d _ _ deep

by_spec : (name : List ℕ) (d : json.Data) (spec : Option json.Data) → IsShallow d → IsShallowPolicyIf (policy_spec name d spec)
by_spec name d None deep = tt
by_spec name d (Some spec) deep = policy_parts_deep name d spec deep

one_policy : (name : List ℕ) (d : json.Data) → IsShallow d → IsShallowPolicyIf (policy_in name d)
unfolding policy_in
one_policy name d deep = by_spec name d (field (codes "spec") d) deep

policy_first : (name : List ℕ) (o : Option BoundPolicy) (r : Result (List BoundPolicy) Refusal) → IsShallowPolicyIf o → IfRead (All IsShallowPolicy) r
    → IfRead (All IsShallowPolicy) (policy_before name o r)
policy_first name None r deep rest = tt
policy_first name (Some p) (Ok ps) deep rest = All-cons IsShallowPolicy p ps deep rest
policy_first name (Some p) (Err e) deep rest = tt

if_it_is_bound : (b : Bool) (x y : Result (List BoundPolicy) Refusal) → IfRead (All IsShallowPolicy) x → IfRead (All IsShallowPolicy) y
    → IfRead (All IsShallowPolicy) (if b then x else y)
if_it_is_bound true x y deep rest = deep
if_it_is_bound false x y deep rest = rest

all_policies : (bs : List Binding) (os : Named) → Shallow os → IfRead (All IsShallowPolicy) (policies_in bs os)
all_policies bs [] deep = All-nil IsShallowPolicy
all_policies bs (o ∷ os) deep =
    let rest = all_policies bs os (All-tail (λ (e : List ℕ × json.Data). IsShallow e.1) o os deep) in
    if_it_is_bound (is_bound bs o.0) (policy_before o.0 (policy_in o.0 o.1) (policies_in bs os)) (policies_in bs os)
    (policy_first o.0 (policy_in o.0 o.1) (policies_in bs os) (one_policy o.0 o.1 (All-head (λ (e : List ℕ × json.Data). IsShallow e.1) o os deep)) rest)
    rest

-- ---- states

with_policies : (is : List Item) (objects : Objects) (bs : List Binding) (r : Result (List BoundPolicy) Refusal) → HaveShallow objects → IfRead (All IsShallowPolicy) r
    → IfRead HasShallowDocuments (state_with is objects bs r)
with_policies is objects bs (Ok ps) deep all = record { policies = all; objects = deep }
with_policies is objects bs (Err e) deep all = tt

with_bindings : (is : List Item) (objects : Objects) (r : Result (List Binding) Refusal) → HaveShallow objects → IfRead HasShallowDocuments (policies_then is objects r)
with_bindings is objects (Ok bs) deep = with_policies is objects bs (policies_in bs (objects policies)) deep (all_policies bs (objects policies) (deep policies))
with_bindings is objects (Err e) deep = tt

with_objects : (is : List Item) (r : Result Objects Refusal) → IfRead HaveShallow r → IfRead HasShallowDocuments (bindings_then is r)
with_objects is (Ok objects) deep = with_bindings is objects (bindings_in (objects bindings)) deep
with_objects is (Err e) deep = tt

of_items : (r : Result (List Item) Refusal) → IfRead (All IsShallowItem) r → IfRead HasShallowDocuments (items_then r)
of_items (Ok is) deep = with_objects is (objects_of is) (if_some_namespace (with_items no_objects is) (all_objects no_objects is (λ c. All-nil (λ (o : List ℕ × json.Data). IsShallow o.1)) deep))
of_items (Err e) deep = tt

-- the state in shallow lists has shallow documents
pub states_are_shallow : StatesAreShallow
states_are_shallow lists s deep is = subst (IfRead HasShallowDocuments) is (of_items (items_of lists) (all_items lists deep))
