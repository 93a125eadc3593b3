-- Items of lists and values of maps, by position.
use Rattle.value_store.proofs.Prelude.{◌≡◌, ◌≤◌, ℕ, zero, suc, List, [], ◌∷◌, length, Option, Some, None, false, Bor, slice_get, option_map, refl, sym, ap, ◌∙◌, subst, arith, IsSome, or_parts, get_item, view, items_view, members_view, Entry, list_of, keys_of, values_of, depth_of, items_depth, entries_depth, parts_of, has_other, items_have_other, members_have_other, plain_value, plain_items, plain_entries, nth_member, part_of}
use Rattle.serde_json.specs.Data as json
use Rattle.serde_json.specs.declared.value.Value as document

item_value : (i : ℕ) (ds : json.Items) → option_map plain_value (get_item i ds) ≡ slice_get (list_of (plain_items ds)) i
item_value i json.no_items = refl
item_value zero (json.item d ds) = refl
item_value (suc i) (json.item d ds) = item_value i ds

member_value : (i : ℕ) (ms : json.Members) → option_map plain_value (option_map (λ m. m.1) (nth_member i ms)) ≡ slice_get (values_of (plain_entries ms)) i
member_value i json.no_members = refl
member_value zero (json.member k d ms) = refl
member_value (suc i) (json.member k d ms) = member_value i ms

pub member_key : (i : ℕ) (ms : json.Members) → option_map (λ m. m.0) (nth_member i ms) ≡ slice_get (keys_of (plain_entries ms)) i
member_key i json.no_members = refl
member_key zero (json.member k d ms) = refl
member_key (suc i) (json.member k d ms) = member_key i ms

-- the value of the part at a position is the part of the value
pub part_value : (i : ℕ) (d : json.Data) → option_map plain_value (part_of i d) ≡ slice_get (parts_of (plain_value d)) i
part_value i d = grind (arith, item_value, member_value)

-- a part is whole, and its value is at most this deep
pub record Within (e : json.Data) (most : ℕ) : Type 0 where
  pub whole : has_other e ≡ false
  pub shallow : depth_of (plain_value e) ≤ most

item_within : (i : ℕ) (ds : json.Items) (e : json.Data) → get_item i ds ≡ Some e → items_have_other ds ≡ false → Within e (items_depth (plain_items ds))
item_within i json.no_items e is whole = absurd (cc)
item_within zero (json.item d ds) e is whole = grind arith
item_within (suc i) (json.item d ds) e is whole = grind (arith, item_within i ds e is (or_parts (has_other d) _ whole).1)

member_within : (i : ℕ) (ms : json.Members) (e : json.Data) → option_map (λ m. m.1) (nth_member i ms) ≡ Some e → members_have_other ms ≡ false
    → Within e (entries_depth (plain_entries ms))
member_within i json.no_members e is whole = absurd (cc)
member_within zero (json.member k d ms) e is whole = grind arith
member_within (suc i) (json.member k d ms) e is whole = grind (arith, member_within i ms e is (or_parts (has_other d) _ whole).1)

pub part_within : (i : ℕ) (d e : json.Data) → part_of i d ≡ Some e → has_other d ≡ false → Within e (depth_of (plain_value d))
part_within i (json.array ds) e is whole = let known = item_within i ds e is whole in let deep = known.shallow in record { whole = known.whole; shallow = omega arith }
part_within i (json.object ms) e is whole = let known = member_within i ms e is whole in let deep = known.shallow in record { whole = known.whole; shallow = omega arith }
part_within i _ e is whole = absurd (cc)

pub item_count : (xs : List document.Value) → length (list_of (plain_items (items_view xs))) ≡ length xs
item_count [] = refl
item_count (x ∷ xs) = ap suc (item_count xs)

pub member_count : (es : List Entry) → length (keys_of (plain_entries (members_view es))) ≡ length es
member_count [] = refl
member_count (e ∷ es) = ap suc (member_count es)

pub part_there : (i : ℕ) (d : json.Data) (o : Option (Bor document.Value)) → option_map (λ v. view v.now) o ≡ part_of i d → IsSome (slice_get (parts_of (plain_value d)) i) → IsSome o
part_there i d (Some v) e there = refl
part_there i d None e there = subst (λ p. IsSome p) (sym (part_value i d) ∙ ap (option_map plain_value) (sym e)) there

pub part_is : (i : ℕ) (d e : json.Data) → part_of i d ≡ Some e → slice_get (parts_of (plain_value d)) i ≡ Some (plain_value e)
part_is i d e is = sym (part_value i d) ∙ ap (option_map plain_value) is
