-- The loops over the items of a list and the members of an object, one turn at a time.
use Rattle.value_table.proofs.Prelude.{◌≡◌, ℕ, ◌-◌, ◌<◌, ◌≤◌, List, [], ◌∷◌, ◌++◌, length, Some, None, refl, ap, ◌∙◌, arith}
use Rattle.json.specs.Token.{Token}
use Rattle.json.specs.Json.{parse_map, after_end_array, read_key, items, members, value}
use Rattle.json.proofs.Grammar.{read_key-shorter}
use Rattle.serde_json.specs.Data as json
use Rattle.serde_json.specs.Read.{of_json, of_items, of_members, converted}
use Rattle.serde_json.specs.View as document
use Rattle.review_tables.proofs.Conversion.{array_item, array_item_refused, array_end, object_member, object_member_refused, object_key_refused, object_end, items_after, items_after-no_items, one_more_after, none_after}

-- these items were read from `first` on, and `now` remains
pub record ItemsSoFar (depth : ℕ) (first now : List Token) (done : List json.Data) : Type 0 where
  pub turns : ℕ
  pub enough : length now ≤ turns
  pub is : converted of_items (items (value depth) (length first) first) ≡ parse_map (items_after done) (converted of_items (items (value depth) turns now))

pub items_begin : (depth : ℕ) (first : List Token) → ItemsSoFar depth first first []
items_begin depth first = record { turns = length first; enough = omega arith; is = none_after (converted of_items (items (value depth) (length first) first)) }

pub items_next : (depth : ℕ) (first now next : List Token) (done : List json.Data) (d : json.Data) → ItemsSoFar depth first now done → after_end_array now ≡ None
    → converted of_json (value depth now) ≡ Some (d, next) → length next < length now → ItemsSoFar depth first next (done ++ d ∷ [])
items_next depth first now next done d h going e less =
    let some : 0 < h.turns = let k = h.enough in omega arith in
    record {
      turns = h.turns - 1;
      enough = let k = h.enough in omega arith;
      is = h.is ∙ ap (parse_map (items_after done)) (array_item (value depth) h.turns now next d some going e) ∙ one_more_after done d (converted of_items (items (value depth) (h.turns - 1) next));
    }

pub item_refused : (depth : ℕ) (first now : List Token) (done : List json.Data) → ItemsSoFar depth first now done → after_end_array now ≡ None
    → converted of_json (value depth now) ≡ None → converted of_items (items (value depth) (length first) first) ≡ None
item_refused depth first now done h going e = h.is ∙ ap (parse_map (items_after done)) (array_item_refused (value depth) h.turns now going e)

pub items_over : (depth : ℕ) (first now next : List Token) (done : List json.Data) → ItemsSoFar depth first now done → after_end_array now ≡ Some next
    → converted of_items (items (value depth) (length first) first) ≡ Some (document.items_of done, next)
items_over depth first now next done h over =
    h.is ∙ ap (parse_map (items_after done)) (array_end (value depth) h.turns now next h.enough over) ∙ ap (λ is. Some (is, next)) (items_after-no_items done)

-- these members were read from `first` on, and `now` remains
pub record MembersSoFar (depth : ℕ) (first now : List Token) (found : json.Members) : Type 0 where
  pub turns : ℕ
  pub enough : length now ≤ turns
  pub is : converted (λ ms. of_members ms json.no_members) (members (value depth) (length first) first) ≡ converted (λ ms. of_members ms found) (members (value depth) turns now)

pub members_begin : (depth : ℕ) (first : List Token) → MembersSoFar depth first first json.no_members
members_begin depth first = record { turns = length first; enough = omega arith; is = refl }

pub members_next : (depth : ℕ) (first now mid next : List Token) (found : json.Members) (k : List ℕ) (d : json.Data) → MembersSoFar depth first now found → read_key now ≡ Some (Some k, mid)
    → converted of_json (value depth mid) ≡ Some (d, next) → length next < length mid → MembersSoFar depth first next (json.put k d found)
members_next depth first now mid next found k d h key e less =
    let shorter = read_key-shorter now (Some k) mid key in
    let some : 0 < h.turns = let n = h.enough in omega arith in
    record { turns = h.turns - 1; enough = let n = h.enough in omega arith; is = h.is ∙ object_member (value depth) found h.turns k now mid next d some key e }

module _ (depth : ℕ) (first now : List Token) (found : json.Members) (h : MembersSoFar depth first now found) where
  pub member_refused : (mid : List Token) (k : List ℕ) → read_key now ≡ Some (Some k, mid) → converted of_json (value depth mid) ≡ None
      → converted (λ ms. of_members ms json.no_members) (members (value depth) (length first) first) ≡ None
  member_refused mid k key e = h.is ∙ object_member_refused (value depth) found h.turns k now mid key e

  pub key_refused : read_key now ≡ None → converted (λ ms. of_members ms json.no_members) (members (value depth) (length first) first) ≡ None
  key_refused e = h.is ∙ object_key_refused (value depth) found h.turns now e

  pub members_over : (next : List Token) → read_key now ≡ Some (None, next) → converted (λ ms. of_members ms json.no_members) (members (value depth) (length first) first) ≡ Some (found, next)
  members_over next over = h.is ∙ object_end (value depth) found h.turns now next h.enough over
