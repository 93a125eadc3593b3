-- What is kept of a value is read as the value.
use Rattle.std.proofs.Common.{◌≡◌, ◌∙◌, ℕ, List, Option, Some, None, ap, is_some, option_map, refl}
use Rattle.serde_json.specs.Data as json
use Rattle.serde_json.specs.Find.{get}
use Rattle.value_store.specs.Documents.{equals_string, is_text}
use Rattle.json_fields.specs.Fields.{field, field_of, present, text_of, text_or_empty_of}
use Rattle.request_fields.specs.Fields.{below, kept}
use Rattle.request_fields.specs.declared.level.Level.{Level}
use Rattle.request_fields.proofs.Ordered.{get_kept}

-- ---- texts

pub text_kept : (l : Level) (o : Option json.Data) → text_of (option_map (kept l) o) ≡ text_of o
text_kept l None = refl
text_kept l (Some json.null) = refl
text_kept l (Some (json.boolean b)) = refl
text_kept l (Some (json.number n)) = refl
text_kept l (Some (json.string s)) = refl
text_kept l (Some (json.array ds)) = refl
text_kept l (Some (json.object ms)) = refl

pub text_or_empty_kept : (l : Level) (o : Option json.Data) → text_or_empty_of (option_map (kept l) o) ≡ text_or_empty_of o
text_or_empty_kept l None = refl
text_or_empty_kept l (Some json.null) = refl
text_or_empty_kept l (Some (json.boolean b)) = refl
text_or_empty_kept l (Some (json.number n)) = refl
text_or_empty_kept l (Some (json.string s)) = refl
text_or_empty_kept l (Some (json.array ds)) = refl
text_or_empty_kept l (Some (json.object ms)) = refl

pub equals_kept : (l : Level) (o : Option json.Data) (text : List ℕ) → equals_string (option_map (kept l) o) text ≡ equals_string o text
equals_kept l None text = refl
equals_kept l (Some json.null) text = refl
equals_kept l (Some (json.boolean b)) text = refl
equals_kept l (Some (json.number n)) text = refl
equals_kept l (Some (json.string s)) text = refl
equals_kept l (Some (json.array ds)) text = refl
equals_kept l (Some (json.object ms)) text = refl

pub is_text_kept : (l : Level) (o : Option json.Data) → is_text (option_map (kept l) o) ≡ is_text o
is_text_kept l None = refl
is_text_kept l (Some json.null) = refl
is_text_kept l (Some (json.boolean b)) = refl
is_text_kept l (Some (json.number n)) = refl
is_text_kept l (Some (json.string s)) = refl
is_text_kept l (Some (json.array ds)) = refl
is_text_kept l (Some (json.object ms)) = refl

-- ---- fields

pub there_kept : (l : Level) (o : Option json.Data) → is_some (option_map (kept l) o) ≡ is_some o
there_kept l None = refl
there_kept l (Some d) = refl

present_kept : (l : Level) (o : Option json.Data) → present (option_map (kept l) o) ≡ option_map (kept l) (present o)
present_kept l None = refl
present_kept l (Some json.null) = refl
present_kept l (Some (json.boolean b)) = refl
present_kept l (Some (json.number n)) = refl
present_kept l (Some (json.string s)) = refl
present_kept l (Some (json.array ds)) = refl
present_kept l (Some (json.object ms)) = refl

module _ (level l : Level) (k : List ℕ) (e : below level k ≡ Some l) where
  pub at_kept : (d : json.Data) → get k (kept level d) ≡ option_map (kept l) (get k d)
  at_kept json.null = refl
  at_kept (json.boolean b) = refl
  at_kept (json.number n) = refl
  at_kept (json.string s) = refl
  at_kept (json.array ds) = refl
  at_kept (json.object ms) = get_kept level l k ms e

  pub field_kept : (d : json.Data) → field k (kept level d) ≡ option_map (kept l) (field k d)
  unfolding field
  field_kept d = ap present (at_kept d) ∙ present_kept l (get k d)

  pub field_of_kept : (o : Option json.Data) → field_of k (option_map (kept level) o) ≡ option_map (kept l) (field_of k o)
  field_of_kept None = refl
  field_of_kept (Some d) = field_kept d

  pub text_at_kept : (d : json.Data) → text_of (field k (kept level d)) ≡ text_of (field k d)
  text_at_kept d = ap text_of (field_kept d) ∙ text_kept l (field k d)

  pub text_or_empty_at_kept : (d : json.Data) → text_or_empty_of (field k (kept level d)) ≡ text_or_empty_of (field k d)
  text_or_empty_at_kept d = ap text_or_empty_of (field_kept d) ∙ text_or_empty_kept l (field k d)
