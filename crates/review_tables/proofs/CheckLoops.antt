-- The loops that read lists and maps without keeping them.
use Rattle.value_table.proofs.Prelude.{◌≡◌, ℕ, ◌-◌, ◌<◌, ◌≤◌, List, [], ◌∷◌, ◌++◌, length, Option, Some, None, Result, Ok, Err, IsSome, option_map, refl, ap, ◌∙◌, arith}
use Rattle.std.specs.Prelude.{OnOk, OnErr}
use Rattle.json.specs.Token.{Token}
use Rattle.json.specs.Json.{parse_map, after_end_array, read_key, items, members, value}
use Rattle.json.proofs.Grammar.{read_key-shorter}
use Rattle.serde_json.specs.Data as json
use Rattle.serde_json.specs.Read.{of_json, of_items, of_members, converted}
use Rattle.serde_json.specs.View as document
use Rattle.review_tables.specs.Reading.{LeavesTokens}
use Rattle.review_tables.proofs.Turns.{ItemsSoFar, MembersSoFar, items_begin, items_next, items_over, members_begin, members_next, members_over}

pub record ItemsChecked (depth : ℕ) (first now : List Token) : Type 0 where
  pub shorter : length now ≤ length first
  pub done : List json.Data
  pub so_far : ItemsSoFar depth first now done

pub items_start : (depth : ℕ) (first : List Token) → ItemsChecked depth first first
items_start depth first = record { shorter = omega arith; done = []; so_far = items_begin depth first }

pub items_turn : (depth : ℕ) (first now next : List Token) → ItemsChecked depth first now → after_end_array now ≡ None → LeavesTokens (converted of_json (value depth now)) next
    → length next < length now → ItemsChecked depth first next
items_turn depth first now next h going r less =
    record { shorter = let k = h.shorter in omega arith; done = h.done ++ r.0 ∷ []; so_far = items_next depth first now next h.done r.0 h.so_far going r.1 less }

pub items_checked : (depth : ℕ) (first now next : List Token) → ItemsChecked depth first now → after_end_array now ≡ Some next
    → LeavesTokens (converted of_items (items (value depth) (length first) first)) next
items_checked depth first now next h over = (document.items_of h.done, items_over depth first now next h.done h.so_far over)

pub record MembersChecked (depth : ℕ) (first now : List Token) : Type 0 where
  pub shorter : length now ≤ length first
  pub found : json.Members
  pub so_far : MembersSoFar depth first now found

pub members_start : (depth : ℕ) (first : List Token) → MembersChecked depth first first
members_start depth first = record { shorter = omega arith; found = json.no_members; so_far = members_begin depth first }

pub members_turn : (depth : ℕ) (first now mid next : List Token) (k : List ℕ) → MembersChecked depth first now → read_key now ≡ Some (Some k, mid)
    → LeavesTokens (converted of_json (value depth mid)) next → length next < length mid → MembersChecked depth first next
members_turn depth first now mid next k h key r less =
    let before = read_key-shorter now (Some k) mid key in
    record { shorter = let n = h.shorter in omega arith; found = json.put k r.0 h.found; so_far = members_next depth first now mid next h.found k r.0 h.so_far key r.1 less }

pub members_checked : (depth : ℕ) (first now next : List Token) → MembersChecked depth first now → read_key now ≡ Some (None, next)
    → LeavesTokens (converted (λ ms. of_members ms json.no_members) (members (value depth) (length first) first)) next
members_checked depth first now next h over = (h.found, members_over depth first now h.found h.so_far next over)

-- ---- results

pub err_so : {T E : Type 0} (r : Result T E) (P : Type 0) → P → OnErr r P
err_so (Ok a) P p = tt
err_so (Err e) P p = p

pub err_weaker : {T E : Type 0} (r : Result T E) (P Q : Type 0) → (P → Q) → OnErr r P → OnErr r Q
err_weaker (Ok a) P Q f p = tt
err_weaker (Err e) P Q f p = f p

pub ok_weaker : {T E : Type 0} (r : Result T E) (P Q : Type 0) → (P → Q) → OnOk r P → OnOk r Q
ok_weaker (Ok a) P Q f p = f p
ok_weaker (Err e) P Q f p = tt

pub leaves_map : {A B : Type 0} (f : A → B) (o : Option (A × List Token)) (rest : List Token) → LeavesTokens o rest → LeavesTokens (parse_map f o) rest
leaves_map f o rest h = (f h.0, ap (parse_map f) h.1)

pub leaves_as : {A : Type 0} (o q : Option (A × List Token)) (rest : List Token) → q ≡ o → LeavesTokens o rest → LeavesTokens q rest
leaves_as o q rest e h = (h.0, e ∙ h.1)

pub numbered : (o : Option json.Num) (ts : List Token) → IsSome o → LeavesTokens (option_map {U = json.Data × List Token} (λ d. (d, ts)) (option_map json.number o)) ts
numbered None ts h = absurd (grind arith)
numbered (Some n) ts h = (json.number n, refl)

pub number_there : {A B : Type 0} (f : A → B) (o : Option A) (b : B) → Some b ≡ option_map f o → IsSome o
number_there f None b e = absurd (cc)
number_there f (Some a) b e = grind arith
