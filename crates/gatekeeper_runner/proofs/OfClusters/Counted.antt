-- The numbers of objects of each kind.
use Rattle.gatekeeper_runner.proofs.Prelude.{◌≡◌, ◌∙◌, ◌+◌, ◌∷◌, ℕ, true, false, List, Option, Some, ap, arith, length, refl, sym, unwrap_or}
use Rattle.std.proofs.Common.{Bool, cond, length-append, ◌&&◌, if◌then◌else◌}
use Rattle.std.proofs.lemmas.Bool.{and_parts}
use Rattle.std.proofs.lemmas.Map.Text.{is_eq-slice_cmp}
use Rattle.std.proofs.lemmas.Slice.Eq.{bytes_eq-Decides}
use Rattle.std.specs.BTreeMap.{IsEmpty, get_by, is_at}
use Rattle.std.specs.Borrow.{Bor}
use Rattle.std.specs.Cmp.Lexicographic.{slice_cmp}
use Rattle.std.specs.Map.{lookup}
use Rattle.std.specs.Ordering.{is_eq, nat_cmp, ordering_then}
use Rattle.std.specs.Str.{bytes_eq}
use Rattle.std.proofs.lemmas.List.{drop_more}
use Rattle.std.proofs.Common.{drop, filter, get_or, map, ◌<◌}
use Rattle.serde_json.specs.Data as json
use Rattle.serde_json.specs.View.{view}
use Rattle.serde_json.specs.declared.value.Value.{Value}
use Rattle.gatekeeper_runner.specs.Cluster.Telling.{is_of_param_kind, listed, objects_in}
use Rattle.cluster_state.proofs.Placed.{two_then}
use Rattle.cluster_state.specs.Policies.{ParamKind}
use Rattle.gatekeeper_runner.specs.Cluster.Counts.{Counts, count_of, kind_cmp}

-- a kind as a key of the code's map
abbrev pub lent_kind : ParamKind → Bor (List ℕ) × Bor (List ℕ)
lent_kind k = (record { ref_ptr = (0, 0); now = k.api_version }, record { ref_ptr = (0, 0); now = k.kind })

-- the order of keys finds the place of a kind
pub is_kind : (k : ParamKind) (version kind : List ℕ)
    → is_eq (ordering_then (slice_cmp nat_cmp version k.api_version) (slice_cmp nat_cmp kind k.kind)) ≡ (bytes_eq version k.api_version && bytes_eq kind k.kind)
is_kind k version kind =
    two_then (slice_cmp nat_cmp version k.api_version) (slice_cmp nat_cmp kind k.kind)
    ∙ rw (is_eq-slice_cmp version k.api_version, is_eq-slice_cmp kind k.kind) refl

same_text : (a b : List ℕ) → bytes_eq a b ≡ true → a ≡ b
same_text a b e = (bytes_eq-Decides a b).0 e

same_kind : (k : ParamKind) (version kind : List ℕ) → (bytes_eq version k.api_version && bytes_eq kind k.kind) ≡ true
    → record { api_version = version; kind = kind } ≡ k
same_kind k version kind e =
    let parts = and_parts (bytes_eq version k.api_version) (bytes_eq kind k.kind) e in
    ap (λ (v : List ℕ). record { api_version = v; kind = kind }) (same_text version k.api_version parts.0)
    ∙ ap (λ (n : List ℕ). record { api_version = k.api_version; kind = n }) (same_text kind k.kind parts.1)

added_if : (b : Bool) (here : Option ℕ) (old : Option ℕ) (n : ℕ) → n ≡ unwrap_or here 0 + 1 → (b ≡ true → here ≡ old)
    → unwrap_or (cond b (Some n) old) 0 ≡ unwrap_or old 0 + (if b then 1 else 0)
added_if true here old n e same = e ∙ ap (λ (o : Option ℕ). unwrap_or o 0 + 1) (same refl)
added_if false here old n e same = omega arith

-- an object is counted
pub one_counted : (k : ParamKind) (version kind : List ℕ) (m : Counts) (n : ℕ) (new : Option ℕ)
    → new ≡ cond (bytes_eq version k.api_version && bytes_eq kind k.kind) (Some n) (get_by (kind_cmp k) m)
    → n ≡ unwrap_or (get_by (kind_cmp (record { api_version = version; kind = kind })) m) 0 + 1
    → unwrap_or new 0 ≡ count_of m k + (if bytes_eq version k.api_version && bytes_eq kind k.kind then 1 else 0)
one_counted k version kind m n new is next =
    ap (λ (o : Option ℕ). unwrap_or o 0) is
    ∙ added_if (bytes_eq version k.api_version && bytes_eq kind k.kind) (get_by (kind_cmp (record { api_version = version; kind = kind })) m) (get_by (kind_cmp k) m) n next
    (λ e. ap (λ (j : ParamKind). get_by (kind_cmp j) m) (same_kind k version kind e))

-- nothing is counted in an empty map
pub none_counted : (m : Counts) → IsEmpty m → (k : ParamKind) → count_of m k ≡ 0
none_counted m e k = ap (λ es. unwrap_or (lookup (is_at (kind_cmp k)) es) 0) e

moved : (before after total x y z : ℕ) → before + x ≡ total → after ≡ before + y → x ≡ y + z → after + z ≡ total
moved before after total x y z go added many = omega (arith, go, added, many)

pub from_none : (n m : ℕ) → n ≡ 0 → n + m ≡ m
from_none n m e = omega (arith, e)

-- an object is counted, or skipped
one_more : (b : Bool) (d : json.Data) (rest : List json.Data) → length (if b then d ∷ rest else rest) ≡ (if b then 1 else 0) + length rest
one_more true d rest = omega arith
one_more false d rest = omega arith

-- one more object of those to count
pub object_next : (k : ParamKind) (objects : List Value) (i : ℕ) (d : Value) (before after total : ℕ) → i < length objects → d ≡ get_or objects i d
    → before + length (filter (is_of_param_kind k) (map view (drop i objects))) ≡ total
    → after ≡ before + (if is_of_param_kind k (view d) then 1 else 0)
    → after + length (filter (is_of_param_kind k) (map view (drop (i + 1) objects))) ≡ total
object_next k objects i d before after total within is go added =
    let rest : List json.Data = map view (drop (i + 1) objects) in
    let front : map view (drop i objects) ≡ view d ∷ rest =
    ap (map view) (drop_more objects i d within ∙ ap (λ (x : Value). x ∷ drop (i + 1) objects) (sym is)) in
    let many : length (filter (is_of_param_kind k) (map view (drop i objects))) ≡ (if is_of_param_kind k (view d) then 1 else 0) + length (filter (is_of_param_kind k) rest) =
    ap (λ (ds : List json.Data). length (filter (is_of_param_kind k) ds)) front ∙ one_more (is_of_param_kind k (view d)) (view d) (filter (is_of_param_kind k) rest) in
    moved before after total _ (if is_of_param_kind k (view d) then 1 else 0) (length (filter (is_of_param_kind k) rest)) go added many

-- one more list
pub list_next : (k : ParamKind) (lists : List Value) (i : ℕ) (d : Value) (before after total : ℕ) → i < length lists → d ≡ get_or lists i d
    → before + length (listed k (map view (drop i lists))) ≡ total
    → after ≡ before + length (filter (is_of_param_kind k) (objects_in (view d)))
    → after + length (listed k (map view (drop (i + 1) lists))) ≡ total
list_next k lists i d before after total within is go added =
    let rest : List json.Data = map view (drop (i + 1) lists) in
    let here : List json.Data = filter (is_of_param_kind k) (objects_in (view d)) in
    let front : map view (drop i lists) ≡ view d ∷ rest =
    ap (map view) (drop_more lists i d within ∙ ap (λ (x : Value). x ∷ drop (i + 1) lists) (sym is)) in
    let many : length (listed k (map view (drop i lists))) ≡ length here + length (listed k rest) =
    ap (λ (ds : List json.Data). length (listed k ds)) front ∙ length-append here (listed k rest) in
    moved before after total _ (length here) (length (listed k rest)) go added many
