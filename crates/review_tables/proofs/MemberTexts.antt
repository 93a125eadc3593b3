-- The text at some keys is found as the members of objects are read.
use Rattle.value_table.proofs.Prelude.{◌≡◌, ◌<◌, ◌≤◌, ◌-◌, ℕ, List, [], ◌∷◌, length, Bool, true, false, Option, Some, None, if◌then◌else◌, refl, sym, ap, ◌∙◌, arith, true≢false, bytes_eq, bytes_eq-Decides}
use Rattle.std.specs.Prelude.{option_and_then}
use Rattle.json.specs.Token as token
use Rattle.json.specs.Token.{Token}
use Rattle.json.specs.Json.{parse_map, read_key, members, value}
use Rattle.json.proofs.Grammar.{value_is, value-begin_object, read_key-shorter}
use Rattle.serde_json.specs.Data as json
use Rattle.serde_json.specs.Read.{max_depth, of_json, of_members, converted}
use Rattle.serde_json.specs.Find.{get, get_member}
use Rattle.serde_json.proofs.Views.{get_member-put, get_member-put_other}
use Rattle.review_tables.specs.MemberText.{text_in, text_at, text_by, FindsAmong, FindsNext, FindsText}
use Rattle.review_tables.specs.Reading.{LeavesTokens}
use Rattle.review_tables.proofs.Conversion.{converted_object, whole, document_read, document_and_more}
use Rattle.review_tables.proofs.Turns.{MembersSoFar, members_begin, members_next, members_over}
use Rattle.review_tables.proofs.ReviewReading.{DataOf, data_of, by_kind}

-- ---- a value

-- a value of another kind is no text, and has no members
other_text : (t : Token) (d : json.Data) → DataOf t d → ((s : List ℕ) → t ≡ token.string s → ⊥) → None ≡ text_in d
other_text t d h n = by_kind (λ e. None ≡ text_in e) t d h (λ ms e. refl) (λ ds. refl) (λ s e. absurd (n s e)) (λ m. refl) (λ b. refl) refl

no_member : (key : List ℕ) (t : Token) (d : json.Data) → DataOf t d → (t ≡ token.begin_object → ⊥) → get key d ≡ None
no_member key t d h n = by_kind (λ e. get key e ≡ None) t d h (λ ms e. absurd (n e)) (λ ds. refl) (λ s e. refl) (λ m. refl) (λ b. refl) refl

pub text_found : (depth : ℕ) (s : List ℕ) (ts : List Token) → FindsText [] (Some s) (converted of_json (value depth (token.string s ∷ ts))) ts
text_found depth s ts = record { document = json.string s; is = ap (converted of_json) (value_is depth (token.string s ∷ ts)); text = refl }

pub text_not_found : (depth : ℕ) (t : Token) (ts rest : List Token) → ((s : List ℕ) → t ≡ token.string s → ⊥) → LeavesTokens (converted of_json (value depth (t ∷ ts))) rest
    → FindsText [] None (converted of_json (value depth (t ∷ ts))) rest
text_not_found depth t ts rest n h = record { document = h.0; is = h.1; text = other_text t h.0 (data_of depth t ts h.0 rest h.1) n }

pub nothing_found : (depth : ℕ) (key : List ℕ) (keys : List (List ℕ)) (t : Token) (ts rest : List Token) → (t ≡ token.begin_object → ⊥) → LeavesTokens (converted of_json (value depth (t ∷ ts))) rest
    → FindsText (key ∷ keys) None (converted of_json (value depth (t ∷ ts))) rest
nothing_found depth key keys t ts rest n h =
    record { document = h.0; is = h.1; text = sym (ap (option_and_then (text_by keys)) (no_member key t h.0 (data_of depth t ts h.0 rest h.1) n)) }

opened : (depth : ℕ) (ts : List Token) → 0 < depth
    → converted of_json (value depth (token.begin_object ∷ ts)) ≡ parse_map json.object (converted (λ ms. of_members ms json.no_members) (members (value (depth - 1)) (length ts) ts))
opened depth ts some = ap (converted of_json) (value-begin_object depth ts some) ∙ converted_object (members (value (depth - 1)) (length ts) ts)

pub member_found : (depth : ℕ) (key : List ℕ) (keys : List (List ℕ)) (found : Option (List ℕ)) (ts rest : List Token) → 0 < depth
    → FindsAmong key keys found (converted (λ ms. of_members ms json.no_members) (members (value (depth - 1)) (length ts) ts)) rest
    → FindsText (key ∷ keys) found (converted of_json (value depth (token.begin_object ∷ ts))) rest
member_found depth key keys found ts rest some g = record { document = json.object g.members; is = opened depth ts some ∙ ap (parse_map json.object) g.is; text = g.text }

pub members_refused : (depth : ℕ) (ts : List Token) → 0 < depth → converted (λ ms. of_members ms json.no_members) (members (value (depth - 1)) (length ts) ts) ≡ None
    → converted of_json (value depth (token.begin_object ∷ ts)) ≡ None
members_refused depth ts some e = opened depth ts some ∙ ap (parse_map json.object) e

-- ---- the members of an object, one turn at a time

pub record FoundTextSoFar (depth : ℕ) (key : List ℕ) (keys : List (List ℕ)) (first now : List Token) (text : Option (List ℕ)) : Type 0 where
  pub shorter : length now ≤ length first
  pub found : json.Members
  pub so_far : MembersSoFar depth first now found
  pub text_is : text ≡ option_and_then (text_by keys) (get_member key found)

pub text_start : (depth : ℕ) (key : List ℕ) (keys : List (List ℕ)) (first : List Token) → FoundTextSoFar depth key keys first first None
text_start depth key keys first = record { shorter = omega arith; found = json.no_members; so_far = members_begin depth first; text_is = refl }

-- a member that has the key replaces what was found; another does not
next_text : (same : Bool) (key name : List ℕ) (keys : List (List ℕ)) (before after : Option (List ℕ)) (d : json.Data) (ms : json.Members) → same ≡ bytes_eq name key
    → before ≡ option_and_then (text_by keys) (get_member key ms) → after ≡ (if same then text_by keys d else before)
    → after ≡ option_and_then (text_by keys) (get_member key (json.put name d ms))
next_text true key name keys before after d ms e was is =
    let named : name ≡ key = grind (arith, bytes_eq-Decides, e) in
    let there : get_member key (json.put name d ms) ≡ Some d = ap (λ l. get_member l (json.put name d ms)) (sym named) ∙ get_member-put name d ms in
    is ∙ sym (ap (option_and_then (text_by keys)) there)
next_text false key name keys before after d ms e was is =
    let other : key ≡ name → ⊥ = λ same. true≢false (sym ((bytes_eq-Decides name key).1 (sym same)) ∙ sym e) in
    is ∙ was ∙ sym (ap (option_and_then (text_by keys)) (get_member-put_other key name d ms other))

pub text_turn : (depth : ℕ) (same : Bool) (key name : List ℕ) (keys : List (List ℕ)) (first now mid next : List Token) (before after : Option (List ℕ)) → FoundTextSoFar depth key keys first now before
    → read_key now ≡ Some (Some name, mid) → same ≡ bytes_eq name key → FindsNext same keys before after (converted of_json (value depth mid)) next → length next < length mid
    → FoundTextSoFar depth key keys first next after
text_turn depth same key name keys first now mid next before after h named e r less =
    let passed = read_key-shorter now (Some name) mid named in
    record {
      shorter = let n = h.shorter in omega arith;
      found = json.put name r.document h.found;
      so_far = members_next depth first now mid next h.found name r.document h.so_far named r.is less;
      text_is = next_text same key name keys before after r.document h.found e h.text_is r.text;
    }

pub text_ends : (depth : ℕ) (key : List ℕ) (keys : List (List ℕ)) (first now next : List Token) (text : Option (List ℕ)) → FoundTextSoFar depth key keys first now text → read_key now ≡ Some (None, next)
    → FindsAmong key keys text (converted (λ ms. of_members ms json.no_members) (members (value depth) (length first) first)) next
text_ends depth key keys first now next text h over = record { members = h.found; is = members_over depth first now h.found h.so_far next over; text = h.text_is }

pub next_found : (keys : List (List ℕ)) (before after : Option (List ℕ)) (o : Option (json.Data × List Token)) (rest : List Token) → FindsText keys after o rest → FindsNext true keys before after o rest
next_found keys before after o rest g = record { document = g.document; is = g.is; text = g.text }

pub next_passed : (keys : List (List ℕ)) (before : Option (List ℕ)) (o : Option (json.Data × List Token)) (rest : List Token) → LeavesTokens o rest → FindsNext false keys before before o rest
next_passed keys before o rest g = record { document = g.0; is = g.1; text = refl }

-- ---- the whole document

by_two : (outer inner : List ℕ) (d : json.Data) → text_by (outer ∷ inner ∷ []) d ≡ text_at outer inner (Some d)
by_two outer inner d = two (get outer d) where
  two : (o : Option json.Data) → option_and_then (text_by (inner ∷ [])) o ≡ option_and_then text_in (option_and_then (get inner) o)
  two None = refl
  two (Some e) = refl

pub document_found : (outer inner : List ℕ) (found : Option (List ℕ)) (ts : List Token) → FindsText (outer ∷ inner ∷ []) found (converted of_json (value max_depth ts)) []
    → found ≡ text_at outer inner (whole (value max_depth ts))
document_found outer inner found ts g =
    g.text ∙ by_two outer inner g.document ∙ ap (text_at outer inner) (sym (document_read (value max_depth ts) g.document g.is))

pub found_and_more : (keys : List (List ℕ)) (found : Option (List ℕ)) (ts rest : List Token) (t : Token) → FindsText keys found (converted of_json (value max_depth ts)) (t ∷ rest)
    → whole (value max_depth ts) ≡ None
found_and_more keys found ts rest t g = document_and_more (value max_depth ts) g.document t rest g.is
