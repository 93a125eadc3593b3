-- The text of a value's tokens is its JSON text.
use Rattle.value_table.proofs.Prelude.{◌≡◌, ℕ, List, [], ◌∷◌, ◌++◌, Bool, true, false, refl, sym, ap, ◌∙◌, append_assoc, append-nil, Token, print, quoted, Value, boolean, list, Items, no_items, item, Entries, no_entries, entry, json_text, items_text, entries_text, comma_after, value_tokens, items_tokens, entries_tokens}
use Rattle.json.specs.Token as json
use Rattle.json.specs.Print.{print_from}
use Rattle.value_store.specs.Value.{map}

mutual
  unfolding print_from

  value_printed : (later : Bool) (v : Value) (rest : List Token)
      → print_from later (value_tokens v ++ rest) ≡ comma_after later ++ (json_text v ++ print_from true rest)
  value_printed true (boolean true) rest = refl
  value_printed false (boolean true) rest = refl
  value_printed true (list is) rest = ap (λ t. 44 ∷ 91 ∷ t) (rw (append_assoc (items_tokens is)) (items_printed false is rest))
  value_printed false (list is) rest = ap (λ t. 91 ∷ t) (rw (append_assoc (items_tokens is)) (items_printed false is rest))
  value_printed true (map es) rest = ap (λ t. 44 ∷ 123 ∷ t) (rw (append_assoc (entries_tokens es)) (entries_printed false es rest))
  value_printed false (map es) rest = ap (λ t. 123 ∷ t) (rw (append_assoc (entries_tokens es)) (entries_printed false es rest))
  value_printed _ _ rest = refl

  items_printed : (later : Bool) (is : Items) (rest : List Token)
      → print_from later (items_tokens is ++ (json.end_array ∷ [] ++ rest)) ≡ items_text later is ++ print_from true rest
  items_printed true no_items rest = refl
  items_printed false no_items rest = refl
  items_printed later (item v more) rest =
      rw (append_assoc (value_tokens v) (items_tokens more), append_assoc (comma_after later), append_assoc (json_text v))
      (value_printed later v (items_tokens more ++ (json.end_array ∷ [] ++ rest)) ∙ ap (λ t. comma_after later ++ (json_text v ++ t)) (items_printed true more rest))

  entries_printed : (later : Bool) (es : Entries) (rest : List Token)
      → print_from later (entries_tokens es ++ (json.end_object ∷ [] ++ rest)) ≡ entries_text later es ++ print_from true rest
  entries_printed true no_entries rest = refl
  entries_printed false no_entries rest = refl
  entries_printed true (entry k v more) rest =
      rw (append_assoc (value_tokens v) (entries_tokens more))
      (ap (λ t. 44 ∷ ((quoted k ++ 58 ∷ []) ++ t)) (value_printed false v (entries_tokens more ++ (json.end_object ∷ [] ++ rest)) ∙ ap (λ t. json_text v ++ t) (entries_printed true more rest))
      ∙ ap (λ t. 44 ∷ t) (append_assoc (quoted k) (58 ∷ []) _ ∙ ap (λ t. quoted k ++ 58 ∷ t) (sym (append_assoc (json_text v) _ _)) ∙ sym (append_assoc (quoted k) _ _)))
  entries_printed false (entry k v more) rest =
      rw (append_assoc (value_tokens v) (entries_tokens more))
      (ap (λ t. (quoted k ++ 58 ∷ []) ++ t) (value_printed false v (entries_tokens more ++ (json.end_object ∷ [] ++ rest)) ∙ ap (λ t. json_text v ++ t) (entries_printed true more rest))
      ∙ (append_assoc (quoted k) (58 ∷ []) _ ∙ ap (λ t. quoted k ++ 58 ∷ t) (sym (append_assoc (json_text v) _ _)) ∙ sym (append_assoc (quoted k) _ _)))

pub printed : (v : Value) → print (value_tokens v) ≡ json_text v
unfolding print_from
printed v = ap (print_from false) (sym (append-nil (value_tokens v))) ∙ value_printed false v [] ∙ append-nil (json_text v)

pub written : (out before : List ℕ) (tokens old : List Token) (v : Value) → out ≡ before ++ print tokens → before ≡ [] → tokens ≡ old ++ value_tokens v
    → old ≡ [] → out ≡ json_text v
written out before tokens old v p b t o = p ∙ ap (λ xs. xs ++ print tokens) b ∙ ap print (t ∙ ap (λ ts. ts ++ value_tokens v) o) ∙ printed v
