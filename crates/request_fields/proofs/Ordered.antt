-- Members in the order of their keys, of which some are kept.
use Rattle.std.proofs.Common.{◌≡◌, ◌∙◌, ℕ, List, Option, Some, None, Ordering, Less, Equal, Greater, ap, is_eq, nat_cmp, option_map, refl, subst, sym}
use Rattle.std.proofs.lemmas.Cmp.{nat_list_cmp_total, tied_itself}
use Rattle.std.proofs.lemmas.Map.Text.{is_eq-slice_cmp}
use Rattle.std.proofs.lemmas.Slice.Eq.{bytes_eq-Decides}
use Rattle.std.specs.Cmp.Lexicographic.{slice_cmp}
use Rattle.std.specs.Ordering.{match_ordering, ordering_reverse}
use Rattle.std.specs.Prelude.{⊤}
use Rattle.serde_json.specs.Data as json
use Rattle.serde_json.specs.Find.{get_member}
use Rattle.json_fields.specs.Members.{put_if}
use Rattle.request_fields.specs.Fields.{before_if, below, kept, kept_members}
use Rattle.request_fields.specs.declared.level.Level.{Level}

-- ---- order

-- all keys are above this one
abbrev pub AreAbove : List ℕ → json.Members → Type 0
AreAbove k json.no_members = ⊤
AreAbove k (json.member l d ms) = (slice_cmp nat_cmp k l ≡ Less) × AreAbove k ms

-- each key is above those before it
abbrev pub Ascend : json.Members → Type 0
Ascend json.no_members = ⊤
Ascend (json.member k d ms) = AreAbove k ms × Ascend ms

above_more : (k l : List ℕ) (ms : json.Members) → slice_cmp nat_cmp k l ≡ Less → AreAbove l ms → AreAbove k ms
above_more k l json.no_members less h = tt
above_more k l (json.member j d ms) less h = (nat_list_cmp_total.trans k l j less h.0, above_more k l ms less h.1)

above_put_at : (o : Ordering) (j k l : List ℕ) (d e : json.Data) (ms : json.Members) → slice_cmp nat_cmp j k ≡ Less → slice_cmp nat_cmp j l ≡ Less
    → AreAbove j ms → AreAbove j (json.put k d ms)
    → AreAbove j (match_ordering o (json.member k d (json.member l e ms)) (json.member l d ms) (json.member l e (json.put k d ms)))
above_put_at Less j k l d e ms first next above later = (first, (next, above))
above_put_at Equal j k l d e ms first next above later = (next, above)
above_put_at Greater j k l d e ms first next above later = (next, later)

above_put : (j k : List ℕ) (d : json.Data) (ms : json.Members) → slice_cmp nat_cmp j k ≡ Less → AreAbove j ms → AreAbove j (json.put k d ms)
above_put j k d json.no_members less h = (less, tt)
above_put j k d (json.member l e ms) less h = above_put_at (slice_cmp nat_cmp k l) j k l d e ms less h.0 h.1 (above_put j k d ms less h.1)

ascend_put_at : (o : Ordering) (k l : List ℕ) (d e : json.Data) (ms : json.Members) → slice_cmp nat_cmp k l ≡ o → AreAbove l ms → Ascend ms
    → Ascend (json.put k d ms)
    → Ascend (match_ordering o (json.member k d (json.member l e ms)) (json.member l d ms) (json.member l e (json.put k d ms)))
ascend_put_at Less k l d e ms is above ascend later = ((is, above_more k l ms is above), (above, ascend))
ascend_put_at Equal k l d e ms is above ascend later = (above, ascend)
ascend_put_at Greater k l d e ms is above ascend later =
    (above_put l k d ms (nat_list_cmp_total.antisymm l k ∙ ap ordering_reverse is) above, later)

pub ascend_put : (k : List ℕ) (d : json.Data) (ms : json.Members) → Ascend ms → Ascend (json.put k d ms)
ascend_put k d json.no_members h = (tt, tt)
ascend_put k d (json.member l e ms) h = ascend_put_at (slice_cmp nat_cmp k l) k l d e ms refl h.0 h.1 (ascend_put k d ms h.1)

put_first : (k : List ℕ) (d : json.Data) (ms : json.Members) → AreAbove k ms → json.put k d ms ≡ json.member k d ms
put_first k d json.no_members h = refl
put_first k d (json.member l e ms) h =
    ap (λ o. match_ordering o (json.member k d (json.member l e ms)) (json.member l d ms) (json.member l e (json.put k d ms))) h.0

same_key : (k l : List ℕ) → slice_cmp nat_cmp k l ≡ Equal → k ≡ l
same_key k l is = (bytes_eq-Decides k l).0 (sym (is_eq-slice_cmp k l) ∙ ap is_eq is)

-- ---- what is kept of a member

abbrev pub part : Level → List ℕ → json.Data → Option json.Data
part level k d = option_map (λ l. kept l d) (below level k)

above_before : (j k : List ℕ) (x : Option json.Data) (ms : json.Members) → slice_cmp nat_cmp j k ≡ Less → AreAbove j ms → AreAbove j (before_if k x ms)
above_before j k None ms less h = h
above_before j k (Some d) ms less h = (less, h)

above_kept : (level : Level) (j : List ℕ) (ms : json.Members) → AreAbove j ms → AreAbove j (kept_members level ms)
above_kept level j json.no_members h = tt
above_kept level j (json.member k d ms) h = above_before j k (part level k d) (kept_members level ms) h.0 (above_kept level j ms h.1)

before_put : (k : List ℕ) (x : Option json.Data) (ms : json.Members) → AreAbove k ms → before_if k x ms ≡ put_if k x ms
before_put k None ms h = refl
before_put k (Some d) ms h = sym (put_first k d ms h)

-- a member that is put at the key of the first one replaces it
replaced : (o : Option Level) (l : List ℕ) (d e : json.Data) (ms : json.Members)
    → before_if l (option_map (λ v. kept v d) o) ms ≡ put_if l (option_map (λ v. kept v d) o) (before_if l (option_map (λ v. kept v e) o) ms)
replaced None l d e ms = refl
replaced (Some v) l d e ms = sym (ap (λ o. match_ordering o
    (json.member l (kept v d) (json.member l (kept v e) ms)) (json.member l (kept v d) ms) (json.member l (kept v e) (json.put l (kept v d) ms)))
    (tied_itself nat_list_cmp_total l))

-- a member that is put after the first one leaves it
passed : (k l : List ℕ) (x y : Option json.Data) (ms : json.Members) → slice_cmp nat_cmp k l ≡ Greater
    → before_if l y (put_if k x ms) ≡ put_if k x (before_if l y ms)
passed k l None y ms is = refl
passed k l (Some d) None ms is = refl
passed k l (Some d) (Some e) ms is =
    sym (ap (λ o. match_ordering o (json.member k d (json.member l e ms)) (json.member l d ms) (json.member l e (json.put k d ms))) is)

kept_put_at : (o : Ordering) (level : Level) (k l : List ℕ) (d e : json.Data) (ms : json.Members) → slice_cmp nat_cmp k l ≡ o → AreAbove l ms
    → kept_members level (json.put k d ms) ≡ put_if k (part level k d) (kept_members level ms)
    → kept_members level (match_ordering o (json.member k d (json.member l e ms)) (json.member l d ms) (json.member l e (json.put k d ms)))
    ≡ put_if k (part level k d) (kept_members level (json.member l e ms))
kept_put_at Less level k l d e ms is above later =
    before_put k (part level k d) (kept_members level (json.member l e ms)) (above_kept level k (json.member l e ms) (is, above_more k l ms is above))
kept_put_at Equal level k l d e ms is above later =
    subst (λ (j : List ℕ). kept_members level (json.member l d ms) ≡ put_if j (part level j d) (kept_members level (json.member l e ms))) (sym (same_key k l is))
    (replaced (below level l) l d e (kept_members level ms))
kept_put_at Greater level k l d e ms is above later =
    ap (before_if l (part level l e)) later ∙ passed k l (part level k d) (part level l e) (kept_members level ms) is

-- what is kept of the members with one more is what is kept of it, put among what is kept of them
pub kept_put : (level : Level) (k : List ℕ) (d : json.Data) (ms : json.Members) → Ascend ms
    → kept_members level (json.put k d ms) ≡ put_if k (part level k d) (kept_members level ms)
kept_put level k d json.no_members h = before_put k (part level k d) json.no_members tt
kept_put level k d (json.member l e ms) h = kept_put_at (slice_cmp nat_cmp k l) level k l d e ms refl h.0 (kept_put level k d ms h.1)

-- ---- what is found at a key

abbrev found_at : Ordering → Option json.Data → json.Data → Option json.Data
found_at o rest d = match_ordering o rest (Some d) rest

left_less : (k j : List ℕ) (x : Option json.Data) (ms : json.Members) → slice_cmp nat_cmp k j ≡ Less → get_member k (before_if j x ms) ≡ get_member k ms
left_less k j None ms is = refl
left_less k j (Some d) ms is = ap (λ o. found_at o (get_member k ms) d) is

left_greater : (k j : List ℕ) (x : Option json.Data) (ms : json.Members) → slice_cmp nat_cmp k j ≡ Greater → get_member k (before_if j x ms) ≡ get_member k ms
left_greater k j None ms is = refl
left_greater k j (Some d) ms is = ap (λ o. found_at o (get_member k ms) d) is

get_step : (o : Ordering) (level l : Level) (k j : List ℕ) (d : json.Data) (ms : json.Members) → slice_cmp nat_cmp k j ≡ o → below level k ≡ Some l
    → get_member k (kept_members level ms) ≡ option_map (kept l) (get_member k ms)
    → get_member k (before_if j (part level j d) (kept_members level ms)) ≡ option_map (kept l) (found_at o (get_member k ms) d)
get_step Less level l k j d ms is e later = left_less k j (part level j d) (kept_members level ms) is ∙ later
get_step Equal level l k j d ms is e later =
    let this : part level j d ≡ Some (kept l d) = ap (option_map (λ v. kept v d)) (ap (below level) (sym (same_key k j is)) ∙ e) in
    ap (λ x. get_member k (before_if j x (kept_members level ms))) this ∙ ap (λ o. found_at o (get_member k (kept_members level ms)) (kept l d)) is
get_step Greater level l k j d ms is e later = left_greater k j (part level j d) (kept_members level ms) is ∙ later

-- at a key that is kept, what is kept of the member
pub get_kept : (level l : Level) (k : List ℕ) (ms : json.Members) → below level k ≡ Some l
    → get_member k (kept_members level ms) ≡ option_map (kept l) (get_member k ms)
get_kept level l k json.no_members e = refl
get_kept level l k (json.member j d ms) e = get_step (slice_cmp nat_cmp k j) level l k j d ms refl e (get_kept level l k ms e)
