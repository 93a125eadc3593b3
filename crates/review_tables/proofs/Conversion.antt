-- One step of the JSON grammar, after the conversion to data.
use Rattle.std.proofs.Common.{◌≡◌, ℕ, zero, suc, ◌-◌, ◌<◌, ◌≤◌, List, [], ◌∷◌, ◌++◌, length, Option, Some, None, option_map, option_and_then, unwrap_or, refl, sym, ap, ap₂, ◌∙◌, arith}
use Rattle.json.specs.Token.{Token}
use Rattle.json.specs.Json as json
use Rattle.json.specs.Json.{Parse, parse_map, after_end_array, read_key, items_step, members_step, items, members, if_last}
use Rattle.json.proofs.Grammar.{items_end, members_end, members_no_key}
use Rattle.serde_json.specs.Data.{Data, array, object, Items, no_items, item, Members, no_members, put}
use Rattle.serde_json.specs.Read.{of_json, of_items, of_members, converted}
use Rattle.serde_json.specs.View.{items_of}

-- ---- options

pub mapped_some : {A B : Type 0} (f : A → B) (x : Option A) (b : B) → option_map f x ≡ Some b → (a : A) × (x ≡ Some a) × (f a ≡ b)
mapped_some f None b e = absurd (cc)
mapped_some f (Some a) b e = (a, refl, cc)

pub mapped_none : {A B : Type 0} (f : A → B) (x : Option A) → option_map f x ≡ None → x ≡ None
mapped_none f None e = refl
mapped_none f (Some a) e = absurd (cc)

-- a result with the remaining tokens
abbrev before : {A : Type 0} → List Token → Option A → Option (A × List Token)
before r x = option_map (λ a. (a, r)) x

before_map : {A B : Type 0} (f : A → B) (r : List Token) (x : Option A) → before r (option_map f x) ≡ parse_map f (before r x)
before_map f r None = refl
before_map f r (Some a) = refl

-- ---- lists and maps

pub converted_array : (o : Option (json.Items × List Token)) → converted of_json (parse_map json.array o) ≡ parse_map array (converted of_items o)
converted_array None = refl
converted_array (Some p) = before_map array p.1 (of_items p.0)

pub converted_object : (o : Option (json.Members × List Token)) → converted of_json (parse_map json.object o) ≡ parse_map object (converted (λ ms. of_members ms no_members) o)
converted_object None = refl
converted_object (Some p) = before_map object p.1 (of_members p.0 no_members)

-- what follows a result continues with the remaining tokens
before_then : {A B : Type 0} (next : A × List Token → Option B) (r : List Token) (x : Option A) → option_and_then next (before r x) ≡ option_and_then (λ a. next (a, r)) x
before_then next r None = refl
before_then next r (Some a) = refl

-- an item is converted before those that follow it
item_first : (j : json.Json) (x : Option Data) → of_json j ≡ x → (o : Option (json.Items × List Token))
    → converted of_items (parse_map (json.item j) o) ≡ option_and_then (λ d. parse_map (item d) (converted of_items o)) x
item_first j None e None = refl
item_first j None e (Some p) = rw e refl
item_first j (Some d) e None = refl
item_first j (Some d) e (Some p) = rw e (before_map (item d) p.1 (of_items p.0))

item_then : (more : Parse json.Items) (o : Option (json.Json × List Token))
    → converted of_items (option_and_then (λ q. parse_map (json.item q.0) (more q.1)) o)
    ≡ option_and_then (λ q. parse_map (item q.0) (converted of_items (more q.1))) (converted of_json o)
item_then more None = refl
item_then more (Some (j, r)) =
    item_first j (of_json j) refl (more r) ∙ sym (before_then (λ q. parse_map (item q.0) (converted of_items (more q.1))) r (of_json j))

-- a member is converted before those that follow it, which are added to it
member_first : (k : List ℕ) (old : Members) (j : json.Json) (x : Option Data) → of_json j ≡ x → (o : Option (json.Members × List Token))
    → converted (λ ms. of_members ms old) (parse_map (json.member k j) o) ≡ option_and_then (λ d. converted (λ ms. of_members ms (put k d old)) o) x
member_first k old j None e None = refl
member_first k old j None e (Some p) = rw e refl
member_first k old j (Some d) e None = refl
member_first k old j (Some d) e (Some p) = rw e refl

member_then : (k : List ℕ) (old : Members) (more : Parse json.Members) (o : Option (json.Json × List Token))
    → converted (λ ms. of_members ms old) (option_and_then (λ q. parse_map (json.member k q.0) (more q.1)) o)
    ≡ option_and_then (λ q. converted (λ ms. of_members ms (put k q.0 old)) (more q.1)) (converted of_json o)
member_then k old more None = refl
member_then k old more (Some (j, r)) =
    member_first k old j (of_json j) refl (more r) ∙ sym (before_then (λ q. converted (λ ms. of_members ms (put k q.0 old)) (more q.1)) r (of_json j))

module _ (p : Parse json.Json) where
  -- the items from a token on that does not end the array
  array_step : (n : ℕ) (ts : List Token) → after_end_array ts ≡ None
      → converted of_items (items p (suc n) ts) ≡ option_and_then (λ q. parse_map (item q.0) (converted of_items (items p n q.1))) (converted of_json (p ts))
  unfolding items
  array_step n ts going = ap (λ o. converted of_items (items_step p (items p n) ts o)) going ∙ item_then (items p n) (p ts)

  pub array_item : (n : ℕ) (ts r : List Token) (d : Data) → 0 < n → after_end_array ts ≡ None → converted of_json (p ts) ≡ Some (d, r)
      → converted of_items (items p n ts) ≡ parse_map (item d) (converted of_items (items p (n - 1) r))
  array_item zero ts r d some going e = absurd (omega arith)
  array_item (suc n) ts r d some going e =
      let same : n ≡ suc n - 1 = omega arith in
      array_step n ts going ∙ ap (option_and_then (λ q. parse_map (item q.0) (converted of_items (items p n q.1)))) e
      ∙ ap (λ m. parse_map (item d) (converted of_items (items p m r))) same

  pub array_item_refused : (n : ℕ) (ts : List Token) → after_end_array ts ≡ None → converted of_json (p ts) ≡ None → converted of_items (items p n ts) ≡ None
  unfolding items
  array_item_refused zero ts going e = refl
  array_item_refused (suc n) ts going e = array_step n ts going ∙ ap (option_and_then (λ q. parse_map (item q.0) (converted of_items (items p n q.1)))) e

  pub array_end : (n : ℕ) (ts r : List Token) → length ts ≤ n → after_end_array ts ≡ Some r → converted of_items (items p n ts) ≡ Some (no_items, r)
  array_end n ts r enough e = ap (converted of_items) (items_end p n ts r enough e)

  module _ (old : Members) where
    -- the members from a key on
    object_step : (n : ℕ) (k : List ℕ) (ts s : List Token) → read_key ts ≡ Some (Some k, s)
        → converted (λ ms. of_members ms old) (members p (suc n) ts) ≡ option_and_then (λ q. converted (λ ms. of_members ms (put k q.0 old)) (members p n q.1)) (converted of_json (p s))
    unfolding members
    object_step n k ts s key =
        ap (λ o. converted (λ ms. of_members ms old) (option_and_then (λ q. members_step p (members p n) q.0 q.1) o)) key ∙ member_then k old (members p n) (p s)

    pub object_member : (n : ℕ) (k : List ℕ) (ts s r : List Token) (d : Data) → 0 < n → read_key ts ≡ Some (Some k, s) → converted of_json (p s) ≡ Some (d, r)
        → converted (λ ms. of_members ms old) (members p n ts) ≡ converted (λ ms. of_members ms (put k d old)) (members p (n - 1) r)
    object_member zero k ts s r d some key e = absurd (omega arith)
    object_member (suc n) k ts s r d some key e =
        let same : n ≡ suc n - 1 = omega arith in
        object_step n k ts s key ∙ ap (option_and_then (λ q. converted (λ ms. of_members ms (put k q.0 old)) (members p n q.1))) e
        ∙ ap (λ m. converted (λ ms. of_members ms (put k d old)) (members p m r)) same

    pub object_member_refused : (n : ℕ) (k : List ℕ) (ts s : List Token) → read_key ts ≡ Some (Some k, s) → converted of_json (p s) ≡ None
        → converted (λ ms. of_members ms old) (members p n ts) ≡ None
    unfolding members
    object_member_refused zero k ts s key e = refl
    object_member_refused (suc n) k ts s key e =
        object_step n k ts s key ∙ ap (option_and_then (λ q. converted (λ ms. of_members ms (put k q.0 old)) (members p n q.1))) e

    pub object_key_refused : (n : ℕ) (ts : List Token) → read_key ts ≡ None → converted (λ ms. of_members ms old) (members p n ts) ≡ None
    object_key_refused n ts e = ap (converted (λ ms. of_members ms old)) (members_no_key p n ts e)

    pub object_end : (n : ℕ) (ts r : List Token) → length ts ≤ n → read_key ts ≡ Some (None, r) → converted (λ ms. of_members ms old) (members p n ts) ≡ Some (old, r)
    object_end n ts r enough e = ap (converted (λ ms. of_members ms old)) (members_end p n ts r enough e)

-- ---- the items that were read, in front of those that follow

abbrev pub items_after : List Data → Items → Items
items_after [] rest = rest
items_after (d ∷ ds) rest = item d (items_after ds rest)

pub items_after-no_items : (ds : List Data) → items_after ds no_items ≡ items_of ds
items_after-no_items [] = refl
items_after-no_items (d ∷ ds) = ap (item d) (items_after-no_items ds)

after_end : (ds : List Data) (d : Data) (rest : Items) → items_after ds (item d rest) ≡ items_after (ds ++ d ∷ []) rest
after_end [] d rest = refl
after_end (c ∷ ds) d rest = ap (item c) (after_end ds d rest)

pub one_more_after : (ds : List Data) (d : Data) (o : Option (Items × List Token)) → parse_map (items_after ds) (parse_map (item d) o) ≡ parse_map (items_after (ds ++ d ∷ [])) o
one_more_after ds d None = refl
one_more_after ds d (Some p) = ap (λ is. Some (is, p.1)) (after_end ds d p.0)

pub none_after : (o : Option (Items × List Token)) → o ≡ parse_map (items_after []) o
none_after None = refl
none_after (Some p) = refl

-- ---- a whole text

abbrev pub whole : Option (json.Json × List Token) → Option Data
whole o = option_and_then of_json (option_and_then (λ p. if_last p.0 p.1) o)

-- the result, if no tokens remain
abbrev last : List Token → Option Data → Option Data
last [] x = x
last (t ∷ r) x = None

whole_last : (j : json.Json) (r : List Token) → whole (Some (j, r)) ≡ last r (of_json j)
whole_last j [] = refl
whole_last j (t ∷ r) = refl

last_none : (r : List Token) → last r None ≡ None
last_none [] = refl
last_none (t ∷ r) = refl

-- the two parts of a result
parts_of : (d : Data) (r s : List Token) (x : Option Data) → before r x ≡ Some (d, s) → (x ≡ Some d) × (r ≡ s)
parts_of d r s None e = absurd (cc)
parts_of d r s (Some c) e = (ap (λ o. Some (unwrap_or {T = Data × List Token} o (c, r)).0) e, ap (λ o. (unwrap_or {T = Data × List Token} o (c, r)).1) e)

whole_by : (o : Option (json.Json × List Token)) (d : Data) (s : List Token) → converted of_json o ≡ Some (d, s) → whole o ≡ last s (Some d)
whole_by None d s e = absurd (cc)
whole_by (Some (j, r)) d s e = let both = parts_of d r s (of_json j) e in whole_last j r ∙ ap₂ last both.1 both.0

pub document_read : (o : Option (json.Json × List Token)) (d : Data) → converted of_json o ≡ Some (d, []) → whole o ≡ Some d
document_read o d e = whole_by o d [] e

pub document_and_more : (o : Option (json.Json × List Token)) (d : Data) (t : Token) (r : List Token) → converted of_json o ≡ Some (d, t ∷ r) → whole o ≡ None
document_and_more o d t r e = whole_by o d (t ∷ r) e

pub document_refused : (o : Option (json.Json × List Token)) → converted of_json o ≡ None → whole o ≡ None
document_refused None e = refl
document_refused (Some (j, r)) e = whole_last j r ∙ ap (last r) (mapped_none (λ d. (d, r)) (of_json j) e) ∙ last_none r
