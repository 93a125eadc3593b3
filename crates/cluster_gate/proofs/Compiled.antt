-- Documents of policies as they are compiled: no deeper, with the specification and the failure policy of the state.
use Rattle.std.proofs.Common.{◌≡◌, ◌∙◌, ◌≤◌, ℕ, Bool, true, false, List, [], ◌∷◌, Option, Some, None, Ordering, Less, Equal, Greater, ap, arith, option_map, refl, sym, true≢false, if◌then◌else◌}
use Rattle.std.proofs.lemmas.Map.Text.{is_eq-slice_cmp}
use Rattle.std.proofs.lemmas.Slice.Eq.{bytes_eq-Decides}
use Rattle.std.specs.Cmp.Lexicographic.{slice_cmp}
use Rattle.std.specs.List.{list_any}
use Rattle.std.specs.Ordering.{is_eq, match_ordering, nat_cmp}
use Rattle.std.specs.Prelude.{bytes_eq, codes, is_none, ◌||◌}
use Rattle.serde_json.specs.Data as json
use Rattle.serde_json.specs.Find.{get, get_member}
use Rattle.serde_json.proofs.Views.{get_member-put, get_member-put_other}
use Rattle.policy_glue.specs.Reading.{spec_keys, validation_keys}
use Rattle.json_fields.specs.Fields.{present}
use Rattle.json_fields.specs.Members.{each_changed, in_array, in_object, others, put_if, without_null, without_nulls}
use Rattle.cluster_gate.specs.CompiledDocuments.{compiled_document, compiled_validation, policy_members, spec_members}

-- ---- depth

picked_depth : (b : Bool) (k : List ℕ) (d : json.Data) (ms rest : json.Members) → json.members_depth rest ≤ json.members_depth ms
    → json.members_depth (if b then rest else json.member k d rest) ≤ json.members_depth (json.member k d ms)
picked_depth true k d ms rest below = omega arith
picked_depth false k d ms rest below = omega arith

others_depth : (key : List ℕ) (ms : json.Members) → json.members_depth (others key ms) ≤ json.members_depth ms
others_depth key json.no_members = omega arith
others_depth key (json.member k d ms) = picked_depth (bytes_eq key k) k d ms (others key ms) (others_depth key ms)

null_depth : (b : Bool) (key : List ℕ) (ms : json.Members) → json.members_depth (if b then others key ms else ms) ≤ json.members_depth ms
null_depth true key ms = others_depth key ms
null_depth false key ms = omega arith

nulls_depth : (keys : List (List ℕ)) (ms : json.Members) → json.members_depth (without_nulls keys ms) ≤ json.members_depth ms
nulls_depth [] ms = omega arith
nulls_depth (key ∷ keys) ms =
    let rest = nulls_depth keys (without_null key ms) in
    let first : json.members_depth (without_null key ms) ≤ json.members_depth ms = null_depth (is_none (present (get_member key ms))) key ms in omega arith

put_at : (o : Ordering) (k l : List ℕ) (d e : json.Data) (ms rest : json.Members) (n : ℕ) → json.depth d ≤ n → json.members_depth (json.member l e ms) ≤ n → json.members_depth rest ≤ n
    → json.members_depth (match_ordering o (json.member k d (json.member l e ms)) (json.member l d ms) (json.member l e rest)) ≤ n
put_at Less k l d e ms rest n a b c = omega arith
put_at Equal k l d e ms rest n a b c = omega arith
put_at Greater k l d e ms rest n a b c = omega arith

put_depth : (k : List ℕ) (d : json.Data) (ms : json.Members) (n : ℕ) → json.depth d ≤ n → json.members_depth ms ≤ n → json.members_depth (json.put k d ms) ≤ n
put_depth k d json.no_members n a b = omega arith
put_depth k d (json.member l e ms) n a b =
    let later : json.members_depth ms ≤ n = omega arith in put_at (slice_cmp nat_cmp k l) k l d e ms (json.put k d ms) n a b (put_depth k d ms n a later)

found_at : (o : Ordering) (d e : json.Data) (rest : Option json.Data) (n : ℕ) → match_ordering o rest (Some e) rest ≡ Some d → json.depth e ≤ n → (rest ≡ Some d → json.depth d ≤ n)
    → json.depth d ≤ n
found_at Less d e rest n is here later = later is
found_at Equal d e rest n is here later = let same : e ≡ d = cc in rw (sym same) here
found_at Greater d e rest n is here later = later is

found_depth : (key : List ℕ) (ms : json.Members) (d : json.Data) → get_member key ms ≡ Some d → json.depth d ≤ json.members_depth ms
found_depth key json.no_members d is = absurd (cc)
found_depth key (json.member l e ms) d is =
    found_at (slice_cmp nat_cmp key l) d e (get_member key ms) (json.members_depth (json.member l e ms)) is (omega arith) (λ later. let below = found_depth key ms d later in omega arith)

changed_by : (key : List ℕ) (f : json.Data → json.Data) (ms : json.Members) (o : Option json.Data) → get_member key ms ≡ o → ((d : json.Data) → json.depth (f d) ≤ json.depth d)
    → json.members_depth (put_if key (option_map f o) ms) ≤ json.members_depth ms
changed_by key f ms None is below = omega arith
changed_by key f ms (Some d) is below =
    let found = found_depth key ms d is in let fewer = below d in put_depth key (f d) ms (json.members_depth ms) (omega arith) (omega arith)

in_object_depth : (f : json.Members → json.Members) (d : json.Data) → ((ms : json.Members) → json.members_depth (f ms) ≤ json.members_depth ms) → json.depth (in_object f d) ≤ json.depth d
in_object_depth f json.null below = omega arith
in_object_depth f (json.boolean b) below = omega arith
in_object_depth f (json.number n) below = omega arith
in_object_depth f (json.string s) below = omega arith
in_object_depth f (json.array ds) below = omega arith
in_object_depth f (json.object ms) below = let fewer = below ms in omega arith

each_depth : (f : json.Data → json.Data) (ds : json.Items) → ((d : json.Data) → json.depth (f d) ≤ json.depth d) → json.items_depth (each_changed f ds) ≤ json.items_depth ds
each_depth f json.no_items below = omega arith
each_depth f (json.item d ds) below = let first = below d in let rest = each_depth f ds below in omega arith

in_array_depth : (f : json.Data → json.Data) (d : json.Data) → ((e : json.Data) → json.depth (f e) ≤ json.depth e) → json.depth (in_array f d) ≤ json.depth d
in_array_depth f json.null below = omega arith
in_array_depth f (json.boolean b) below = omega arith
in_array_depth f (json.number n) below = omega arith
in_array_depth f (json.string s) below = omega arith
in_array_depth f (json.array ds) below = let fewer = each_depth f ds below in omega arith
in_array_depth f (json.object ms) below = omega arith

spec_depth : (ms : json.Members) → json.members_depth (spec_members ms) ≤ json.members_depth ms
spec_depth ms =
    let keys = codes "auditAnnotations" ∷ spec_keys in
    let left = nulls_depth keys ms in
    let all = changed_by (codes "validations") (in_array compiled_validation) (without_nulls keys ms) _ refl
    (λ d. in_array_depth compiled_validation d (λ e. in_object_depth (without_nulls validation_keys) e (nulls_depth validation_keys))) in omega arith

policy_depth : (ms : json.Members) → json.members_depth (policy_members ms) ≤ json.members_depth ms
policy_depth ms =
    let left = others_depth (codes "status") ms in
    let all = changed_by (codes "spec") (in_object spec_members) (others (codes "status") ms) _ refl (λ d. in_object_depth spec_members d spec_depth) in omega arith

-- the document is nested no deeper
pub compiled_depth : (d : json.Data) → json.depth (compiled_document d) ≤ json.depth d
compiled_depth d = in_object_depth policy_members d policy_depth

-- ---- members

either : (o : Ordering) (a b : Option json.Data) → is_eq o ≡ false → match_ordering o a b a ≡ a
either o a b e = grind arith

none_by : (key k : List ℕ) (d : json.Data) (rest : json.Members) (b : Bool) → bytes_eq key k ≡ b → get_member key rest ≡ None
    → get_member key (if b then rest else json.member k d rest) ≡ None
none_by key k d rest true is later = later
none_by key k d rest false is later = either (slice_cmp nat_cmp key k) (get_member key rest) (Some d) (is_eq-slice_cmp key k ∙ is) ∙ later

others_none : (key : List ℕ) (ms : json.Members) → get_member key (others key ms) ≡ None
others_none key json.no_members = refl
others_none key (json.member k d ms) = none_by key k d (others key ms) (bytes_eq key k) refl (others_none key ms)

kept_by : (key other k : List ℕ) (d : json.Data) (ms : json.Members) (b : Bool) → bytes_eq key k ≡ b → bytes_eq other key ≡ false → get_member other (others key ms) ≡ get_member other ms
    → get_member other (if b then others key ms else json.member k d (others key ms)) ≡ get_member other (json.member k d ms)
kept_by key other k d ms b is apart later = grind (arith, either, is_eq-slice_cmp, bytes_eq-Decides)

-- the other keys keep their values
pub member_kept : (key other : List ℕ) (ms : json.Members) → bytes_eq other key ≡ false → get_member other (others key ms) ≡ get_member other ms
member_kept key other json.no_members apart = refl
member_kept key other (json.member k d ms) apart = kept_by key other k d ms (bytes_eq key k) refl apart (member_kept key other ms apart)

pub null_apart : (b : Bool) (key other : List ℕ) (ms : json.Members) → bytes_eq other key ≡ false → get_member other (if b then others key ms else ms) ≡ get_member other ms
null_apart true key other ms apart = member_kept key other ms apart
null_apart false key other ms apart = refl

split : (a b : Bool) → (a || b) ≡ false → (a ≡ false) × (b ≡ false)
split true b e = absurd (cc)
split false b e = (refl, e)

nulls_apart : (other : List ℕ) (keys : List (List ℕ)) (ms : json.Members) → list_any (bytes_eq other) keys ≡ false → get_member other (without_nulls keys ms) ≡ get_member other ms
nulls_apart other [] ms apart = refl
nulls_apart other (key ∷ keys) ms apart =
    let each = split (bytes_eq other key) (list_any (bytes_eq other) keys) apart in
    nulls_apart other keys (without_null key ms) each.1 ∙ null_apart (is_none (present (get_member key ms))) key other ms each.0

null_by : (key : List ℕ) (ms : json.Members) (o : Option json.Data) → get_member key ms ≡ o → get_member key (if is_none (present o) then others key ms else ms) ≡ present o
null_by key ms None is = others_none key ms
null_by key ms (Some json.null) is = others_none key ms
null_by key ms (Some (json.boolean b)) is = is
null_by key ms (Some (json.number n)) is = is
null_by key ms (Some (json.string s)) is = is
null_by key ms (Some (json.array ds)) is = is
null_by key ms (Some (json.object es)) is = is

put_apart : (key other : List ℕ) (d : json.Data) (ms : json.Members) → bytes_eq other key ≡ false → get_member other (json.put key d ms) ≡ get_member other ms
put_apart key other d ms apart = get_member-put_other other key d ms (λ same. absurd (true≢false (sym ((bytes_eq-Decides other key).1 same) ∙ apart)))

pub changed_apart : (key other : List ℕ) (o : Option json.Data) (ms : json.Members) → bytes_eq other key ≡ false → get_member other (put_if key o ms) ≡ get_member other ms
changed_apart key other None ms apart = refl
changed_apart key other (Some d) ms apart = put_apart key other d ms apart

pub changed_here : (key : List ℕ) (f : json.Data → json.Data) (ms : json.Members) (o : Option json.Data) → get_member key ms ≡ o → get_member key (put_if key (option_map f o) ms) ≡ option_map f o
changed_here key f ms None is = is
changed_here key f ms (Some d) is = get_member-put key (f d) ms

-- ---- the specification

-- the specification is that of the document, as it is compiled
pub spec_compiled : (d : json.Data) → get (codes "spec") (compiled_document d) ≡ option_map (in_object spec_members) (get (codes "spec") d)
spec_compiled json.null = refl
spec_compiled (json.boolean b) = refl
spec_compiled (json.number n) = refl
spec_compiled (json.string s) = refl
spec_compiled (json.array ds) = refl
spec_compiled (json.object ms) =
    changed_here (codes "spec") (in_object spec_members) (others (codes "status") ms) _ refl
    ∙ ap (option_map (in_object spec_members)) (member_kept (codes "status") (codes "spec") ms refl)

-- the failure policy is absent if it is null
pub failure_left : (ms : json.Members) → get_member (codes "failurePolicy") (without_nulls (codes "auditAnnotations" ∷ spec_keys) ms) ≡ present (get_member (codes "failurePolicy") ms)
unfolding spec_keys
failure_left ms =
    let name = codes "failurePolicy" in
    let first = without_null (codes "auditAnnotations") ms in
    let second = without_null name first in
    let rest = codes "matchConditions" ∷ codes "matchConstraints" ∷ codes "paramKind" ∷ codes "validations" ∷ codes "variables" ∷ [] in
    nulls_apart name rest second refl
    ∙ null_by name first (get_member name first) refl
    ∙ ap present (null_apart _ (codes "auditAnnotations") name ms refl)

failure_in_members : (ms : json.Members) → get_member (codes "failurePolicy") (spec_members ms) ≡ present (get_member (codes "failurePolicy") ms)
failure_in_members ms =
    changed_apart (codes "validations") (codes "failurePolicy") _ (without_nulls (codes "auditAnnotations" ∷ spec_keys) ms) refl ∙ failure_left ms

-- its failure policy is absent if it is null
pub failure_compiled : (d : json.Data) → get (codes "failurePolicy") (in_object spec_members d) ≡ present (get (codes "failurePolicy") d)
failure_compiled json.null = refl
failure_compiled (json.boolean b) = refl
failure_compiled (json.number n) = refl
failure_compiled (json.string s) = refl
failure_compiled (json.array ds) = refl
failure_compiled (json.object ms) = failure_in_members ms
