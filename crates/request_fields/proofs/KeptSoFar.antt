-- What is kept as values are read.
use Rattle.std.proofs.Common.{◌≡◌, ◌∙◌, ◌∷◌, ◌-◌, ◌<◌, ◌≤◌, ℕ, Bool, Global, List, [], Option, Some, None, String, ap, ap₂, arith, false, length, option_map, refl, rules, string_bytes, sym}
use Rattle.std.specs.Borrow.{Bor}
use Rattle.json.specs.Json.{members, parse_map, read_key, value}
use Rattle.json.specs.Reads.{token_of}
use Rattle.json.specs.Token.{Token}
use Rattle.json.specs.Token as token
use Rattle.json.specs.declared.token.Token as tokens
use Rattle.json.specs.declared.token.Token.TheVariants as variant
use Rattle.json.proofs.Grammar.{read_key-shorter, value-begin_object}
use Rattle.serde_json.specs.Data as json
use Rattle.serde_json.specs.Read.{converted, max_depth, of_json, of_members}
use Rattle.serde_json.specs.View.{view}
use Rattle.serde_json.specs.declared.value.Value.{the_lemmas}
use Rattle.serde_json.specs.declared.value.Value as variants
use Rattle.json_fields.specs.Members.{put_if}
use Rattle.review_tables.proofs.Conversion.{converted_object, document_and_more, document_read, whole}
use Rattle.review_tables.proofs.ReviewReading.{DataOf, data_of}
use Rattle.review_tables.proofs.Turns.{MembersSoFar, members_begin, members_next, members_over}
use Rattle.review_tables.specs.Reading.{LeavesTokens}
use Rattle.request_fields.specs.Fields.{below, kept, kept_members}
use Rattle.request_fields.specs.Reading.{Keeps, KeepsAt}
use Rattle.request_fields.specs.declared.level.Level.{Level}
use Rattle.request_fields.proofs.Ordered.{Ascend, ascend_put, kept_put}

-- ---- members

-- these members were read from `first` on, `now` remains, and this is kept of them
pub record KeptSoFar (level : Level) (depth : ℕ) (first now : List Token) (found : json.Members) : Type 0 where
  pub shorter : length now ≤ length first
  pub read : json.Members
  pub so_far : MembersSoFar depth first now read
  pub ascend : Ascend read
  pub keeps : found ≡ kept_members level read

pub kept_start : (level : Level) (depth : ℕ) (first : List Token) (found : json.Members) → found ≡ json.no_members → KeptSoFar level depth first first found
kept_start level depth first found none =
    record { shorter = omega arith; read = json.no_members; so_far = members_begin depth first; ascend = tt; keeps = none }

pub kept_turn : (level : Level) (depth : ℕ) (first now mid next : List Token) (found after : json.Members) (k : List ℕ) (at : Option Level) (x : Option json.Data)
    → KeptSoFar level depth first now found → read_key now ≡ Some (Some k, mid) → at ≡ below level k → KeepsAt at x (converted of_json (value depth mid)) next
    → length next < length mid → after ≡ put_if k x found → KeptSoFar level depth first next after
kept_turn level depth first now mid next found after k at x h key below_is r less put =
    let passed = read_key-shorter now (Some k) mid key in
    let this : x ≡ option_map (λ l. kept l r.document) (below level k) = r.keeps ∙ ap (option_map (λ l. kept l r.document)) below_is in
    record {
      shorter = let n = h.shorter in omega arith;
      read = json.put k r.document h.read;
      so_far = members_next depth first now mid next h.read k r.document h.so_far key r.is less;
      ascend = ascend_put k r.document h.read h.ascend;
      keeps = put ∙ ap₂ (put_if k) this h.keeps ∙ sym (kept_put level k r.document h.read h.ascend);
    }

pub kept_ends : (level : Level) (depth : ℕ) (first now next : List Token) (found : json.Members) (is : json.Data) → is ≡ json.object found
    → KeptSoFar level depth first now found → read_key now ≡ Some (None, next)
    → Keeps level is (parse_map json.object (converted (λ ms. of_members ms json.no_members) (members (value depth) (length first) first))) next
kept_ends level depth first now next found is object h over = record {
  document = json.object h.read;
  is = ap (parse_map json.object) (members_over depth first now h.read h.so_far next over);
  keeps = object ∙ ap json.object h.keeps;
}

-- ---- values

pub view-Null : view variants.Null ≡ json.null
view-Null = search (rules, the_lemmas)

pub view-Bool : (b : Bool) → view (variants.Bool b) ≡ json.boolean b
view-Bool b = search (rules, the_lemmas)

pub view-String : (s : String Global) → view (variants.String s) ≡ json.string (string_bytes s)
view-String s = search (rules, the_lemmas)

pub opened : (depth : ℕ) (ts : List Token) → 0 < depth
    → converted of_json (value depth (token.begin_object ∷ ts)) ≡ parse_map json.object (converted (λ ms. of_members ms json.no_members) (members (value (depth - 1)) (length ts) ts))
opened depth ts some = ap (converted of_json) (value-begin_object depth ts some) ∙ converted_object (members (value (depth - 1)) (length ts) ts)

pub keeps_as : (level : Level) (found : json.Data) (o p : Option (json.Data × List Token)) (rest : List Token) → p ≡ o → Keeps level found o rest → Keeps level found p rest
keeps_as level found o p rest e h = record { document = h.document; is = e ∙ h.is; keeps = h.keeps }

other_kept : (level : Level) (t : tokens.Token) (d : json.Data) → DataOf (token_of t) d → (t ≡ variant.BeginObject → ⊥) → ((s : Bor (List ℕ)) → t ≡ variant.String s → ⊥)
    → (t ≡ variant.Null → ⊥) → json.boolean false ≡ kept level d
other_kept level variant.BeginObject d h object text null = absurd (object refl)
other_kept level variant.BeginArray d h object text null = sym (ap (kept level) h.1)
other_kept level (variant.String s) d h object text null = absurd (text s refl)
other_kept level (variant.Number s) d h object text null = sym (ap (kept level) h.1)
other_kept level (variant.Bool b) d h object text null = sym (ap (kept level) h)
other_kept level variant.Null d h object text null = absurd (null refl)
other_kept level variant.EndObject d h object text null = absurd h
other_kept level variant.EndArray d h object text null = absurd h
other_kept level (variant.Key s) d h object text null = absurd h
other_kept level variant.Bad d h object text null = absurd h

pub other_read : (level : Level) (depth : ℕ) (t : tokens.Token) (ts rest : List Token) → (t ≡ variant.BeginObject → ⊥) → ((s : Bor (List ℕ)) → t ≡ variant.String s → ⊥)
    → (t ≡ variant.Null → ⊥) → LeavesTokens (converted of_json (value depth (token_of t ∷ ts))) rest
    → Keeps level (view (variants.Bool false)) (converted of_json (value depth (token_of t ∷ ts))) rest
other_read level depth t ts rest object text null h =
    record { document = h.0; is = h.1; keeps = view-Bool false ∙ other_kept level t h.0 (data_of depth (token_of t) ts h.0 rest h.1) object text null }

-- ---- the whole text

pub document_kept : (level : Level) (found : json.Data) (ts : List Token) → Keeps level found (converted of_json (value max_depth ts)) []
    → option_map (kept level) (whole (value max_depth ts)) ≡ Some found
document_kept level found ts h = ap (option_map (kept level)) (document_read (value max_depth ts) h.document h.is) ∙ ap Some (sym h.keeps)

pub more_refused : (level : Level) (found : json.Data) (ts rest : List Token) (t : Token) → Keeps level found (converted of_json (value max_depth ts)) (t ∷ rest)
    → whole (value max_depth ts) ≡ None
more_refused level found ts rest t h = document_and_more (value max_depth ts) h.document t rest h.is
