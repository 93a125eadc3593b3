-- Members without a key, as the code leaves them.
use Rattle.std.proofs.Common.{◌≡◌, ◌∙◌, ℕ, Bool, true, false, List, [], ◌∷◌, Option, Some, None, Ordering, Less, Equal, Greater, String, Global, ap, cond, option_map, refl, string_bytes, sym, if◌then◌else◌}
use Rattle.std.proofs.lemmas.Map.Text.{is_eq-slice_cmp}
use Rattle.std.specs.BTreeMap.{is_at}
use Rattle.std.specs.Cmp.Lexicographic.{slice_cmp}
use Rattle.std.specs.Map.{lookup, remove_entry}
use Rattle.std.specs.Ordering.{is_eq, match_ordering, nat_cmp}
use Rattle.serde_json.specs.Data as json
use Rattle.serde_json.specs.Find.{get_member}
use Rattle.serde_json.specs.View.{members_view, view}
use Rattle.serde_json.specs.declared.value.Value.{Value}
use Rattle.serde_json.proofs.Views.{view-lookup}
use Rattle.json_fields.specs.Members.{others}

abbrev Entry : Type 0
Entry = String Global × Value

-- without a key that is not there, all members are left
absent_at : (o : Ordering) (key k : List ℕ) (d : json.Data) (ms : json.Members) → match_ordering o (get_member key ms) (Some d) (get_member key ms) ≡ None
    → (get_member key ms ≡ None → others key ms ≡ ms) → (if is_eq o then others key ms else json.member k d (others key ms)) ≡ json.member k d ms
absent_at Less key k d ms e later = ap (json.member k d) (later e)
absent_at Equal key k d ms e later = absurd (cc)
absent_at Greater key k d ms e later = ap (json.member k d) (later e)

absent_others : (key : List ℕ) (ms : json.Members) → get_member key ms ≡ None → others key ms ≡ ms
absent_others key json.no_members e = refl
absent_others key (json.member k d ms) e =
    ap (λ t. if t then others key ms else json.member k d (others key ms)) (sym (is_eq-slice_cmp key k))
    ∙ absent_at (slice_cmp nat_cmp key k) key k d ms e (absent_others key ms)

later_none : (o : Ordering) (d : json.Data) (rest : Option json.Data) → match_ordering o rest (Some d) rest ≡ None → rest ≡ None
later_none Less d rest e = e
later_none Equal d rest e = absurd (cc)
later_none Greater d rest e = e

removed_by : (t : Bool) (key : List ℕ) (e : Entry) (es rest : List Entry) → get_member key (members_view (cond t es (e ∷ rest))) ≡ None
    → (get_member key (members_view rest) ≡ None → members_view rest ≡ others key (members_view es))
    → members_view (cond t es (e ∷ rest)) ≡ (if t then others key (members_view es) else json.member (string_bytes e.0) (view e.1) (others key (members_view es)))
removed_by true key e es rest none later = sym (absent_others key (members_view es) none)
removed_by false key e es rest none later =
    ap (json.member (string_bytes e.0) (view e.1)) (later (later_none (slice_cmp nat_cmp key (string_bytes e.0)) (view e.1) (get_member key (members_view rest)) none))

-- if the key is not among the entries without the first one at it, their members are those with other keys
without_entry : (key : List ℕ) (es : List Entry)
    → get_member key (members_view (remove_entry (is_at (λ k. slice_cmp nat_cmp key (string_bytes k))) es)) ≡ None
    → members_view (remove_entry (is_at (λ k. slice_cmp nat_cmp key (string_bytes k))) es) ≡ others key (members_view es)
without_entry key [] none = refl
without_entry key (e ∷ es) none =
    removed_by (is_eq (slice_cmp nat_cmp key (string_bytes e.0))) key e es _ none (without_entry key es)
    ∙ ap (λ t. if t then others key (members_view es) else json.member (string_bytes e.0) (view e.1) (others key (members_view es))) (is_eq-slice_cmp key (string_bytes e.0))

-- the entries without a key are the members with other keys
pub without_key : (key : List ℕ) (es rest : List Entry) → rest ≡ remove_entry (is_at (λ k. slice_cmp nat_cmp key (string_bytes k))) es
    → lookup (is_at (λ k. slice_cmp nat_cmp key (string_bytes k))) rest ≡ None → members_view rest ≡ others key (members_view es)
without_key key es rest is none =
    let left : get_member key (members_view rest) ≡ None = sym (view-lookup key rest) ∙ ap (option_map view) none in
    ap members_view is ∙ without_entry key es (ap (λ (xs : List Entry). get_member key (members_view xs)) (sym is) ∙ left)
