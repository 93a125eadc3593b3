-- Results and outcomes that are reached.
use Rattle.std.proofs.Common.{◌≡◌, ℕ, pos, negsuc, List, [], ◌++◌, refl, Option, Some, None, slice_get, option_to_list}
use Rattle.std.proofs.Common.{Bool, true, false, if◌then◌else◌}
use Rattle.std.proofs.lemmas.List.Elements.{Contains-append_left, Contains-append_right}
use Rattle.value_store.specs.Lookup.{find}
use Rattle.value_store.specs.Value.{Value, null, boolean, int, text, list, map, Items, list_of, Entries}
use Rattle.value_store.specs.Value.{ValueOrError, error, value}
use Rattle.cel_macros.specs.Environment.{value_or_error}
use Rattle.cel_macros.specs.Logic.{Truth, Yes, No, Other, chosen}
use Rattle.cel_macros.specs.Selection.{field_of, index_of}
use Rattle.wide_reader.specs.declared.wide.Access.{Access, TheVariants.Plain, TheVariants.Optional}
use Rattle.wide_meaning.specs.Access.{sel, at, field_in as field_meaning, index_in}
use Rattle.wide_meaning.specs.Environment.{plain_or_failed}
use Rattle.wide_meaning.specs.Functions.{some_unless_zero, is_zero}
use Rattle.wide_meaning.specs.Outcome.{Outcome, failed, plain, absent, present, outcome_of, plain_part, optional_of}
use Rattle.wide_meaning.specs.Outcome.{some_of, value_in, value_or, first_of}
use Rattle.wide_reach.specs.Law.{IsOutcomeReached}
use Rattle.wide_reach.specs.Parts.{items, fields, entries, indexed}
use Rattle.wide_reach.specs.Ranges.{valued}
use Rattle.wide_reach.specs.Reached.{IsReached, one}
use Rattle.wide_reach.proofs.Lists.{AreAmong, first, at_index}
use Rattle.wide_reach.proofs.Reached.{list_items, map_fields, fields_among, more, left, right}

-- the result, if it is a value, is reached
abbrev pub IsResultReached : List Value → ValueOrError → Type 0
IsResultReached vs error = Unit {0}
IsResultReached vs (value v) = IsReached vs v

pub outcome_reached : (vs : List Value) (x : ValueOrError) → IsResultReached vs x → IsOutcomeReached vs (outcome_of x)
outcome_reached vs error h = tt
outcome_reached vs (value v) h = h

pub plain_reached : (vs : List Value) (o : Outcome) → IsOutcomeReached vs o → IsResultReached vs (plain_part o)
plain_reached vs failed h = tt
plain_reached vs (plain v) h = h
plain_reached vs absent h = tt
plain_reached vs (present v) h = tt

pub some_reached : (vs : List Value) (o : Outcome) → IsOutcomeReached vs o → IsOutcomeReached vs (some_of o)
some_reached vs failed h = tt
some_reached vs (plain v) h = h
some_reached vs absent h = tt
some_reached vs (present v) h = tt

pub more_outcome : (vs ws : List Value) (o : Outcome) → IsOutcomeReached vs o → AreAmong vs ws → IsOutcomeReached ws o
more_outcome vs ws failed h s = tt
more_outcome vs ws (plain v) h s = more vs ws v h s
more_outcome vs ws absent h s = tt
more_outcome vs ws (present v) h s = more vs ws v h s

pub left_outcome : (vs ws : List Value) (o : Outcome) → IsOutcomeReached vs o → IsOutcomeReached (vs ++ ws) o
left_outcome vs ws o h = more_outcome vs (vs ++ ws) o h (λ x m. Contains-append_left vs ws x m)

pub right_outcome : (vs ws : List Value) (o : Outcome) → IsOutcomeReached ws o → IsOutcomeReached (vs ++ ws) o
right_outcome vs ws o h = more_outcome ws (vs ++ ws) o h (λ x m. Contains-append_right vs ws x m)

pub valued_reached : (us : List Value) (x : ValueOrError) → AreAmong (valued x) us → IsResultReached us x
valued_reached us error s = tt
valued_reached us (value v) s = one (s v (first v []))

pub document_reached : (o : Option Value) → IsOutcomeReached (option_to_list o) (plain_or_failed o)
document_reached (Some v) = one (first v [])
document_reached None = tt

-- ---- parts

pub optional_reached : (vs : List Value) (o : Option Value) → ((v : Value) → o ≡ Some v → IsReached vs v)
    → IsOutcomeReached vs (optional_of o)
optional_reached vs None h = tt
optional_reached vs (Some v) h = h v refl

missing_reached : (vs : List Value) (o : Option Value) → ((v : Value) → o ≡ Some v → IsReached vs v) → IsResultReached vs (value_or_error o)
missing_reached vs None h = tt
missing_reached vs (Some v) h = h v refl

sel_reached : (f : List ℕ) (vs : List Value) (v : Value) → IsReached vs v → IsOutcomeReached (fields f vs) (sel v f)
sel_reached f vs null h = tt
sel_reached f vs (boolean b) h = tt
sel_reached f vs (int z) h = tt
sel_reached f vs (text s) h = tt
sel_reached f vs (list is) h = tt
sel_reached f vs (map es) h = optional_reached (fields f vs) (find f es) (map_fields vs es h f)

field_of_reached : (f : List ℕ) (vs : List Value) (v : Value) → IsReached vs v → IsResultReached (fields f vs) (field_of (value v) f)
field_of_reached f vs null h = tt
field_of_reached f vs (boolean b) h = tt
field_of_reached f vs (int z) h = tt
field_of_reached f vs (text s) h = tt
field_of_reached f vs (list is) h = tt
field_of_reached f vs (map es) h = missing_reached (fields f vs) (find f es) (map_fields vs es h f)

pub field_reached : (o : Access) (vs : List Value) (x : Outcome) (f : List ℕ) → IsOutcomeReached vs x
    → IsOutcomeReached (fields f vs) (field_meaning o x f)
field_reached Plain vs failed f h = tt
field_reached Plain vs (plain v) f h = outcome_reached (fields f vs) (field_of (value v) f) (field_of_reached f vs v h)
field_reached Plain vs absent f h = tt
field_reached Plain vs (present v) f h = sel_reached f vs v h
field_reached Optional vs failed f h = tt
field_reached Optional vs (plain v) f h = sel_reached f vs v h
field_reached Optional vs absent f h = tt
field_reached Optional vs (present v) f h = sel_reached f vs v h

-- ---- a text as an index

at_text : (f : List ℕ) (vs : List Value) (v : Value) → IsReached vs v → IsOutcomeReached (fields f vs) (at v (text f))
at_text f vs null h = tt
at_text f vs (boolean b) h = tt
at_text f vs (int z) h = tt
at_text f vs (text s) h = tt
at_text f vs (list is) h = tt
at_text f vs (map es) h = optional_reached (fields f vs) (find f es) (map_fields vs es h f)

index_of_text : (f : List ℕ) (vs : List Value) (v : Value) → IsReached vs v
    → IsResultReached (fields f vs) (index_of (value v) (value (text f)))
index_of_text f vs null h = tt
index_of_text f vs (boolean b) h = tt
index_of_text f vs (int z) h = tt
index_of_text f vs (text s) h = tt
index_of_text f vs (list is) h = tt
index_of_text f vs (map es) h = missing_reached (fields f vs) (find f es) (map_fields vs es h f)

pub text_index_reached : (o : Access) (vs : List Value) (x : Outcome) (f : List ℕ) → IsOutcomeReached vs x
    → IsOutcomeReached (fields f vs) (index_in o x (plain (text f)))
text_index_reached Plain vs failed f h = tt
text_index_reached Plain vs (plain v) f h = outcome_reached (fields f vs) (index_of (value v) (value (text f))) (index_of_text f vs v h)
text_index_reached Plain vs absent f h = tt
text_index_reached Plain vs (present v) f h = at_text f vs v h
text_index_reached Optional vs failed f h = tt
text_index_reached Optional vs (plain v) f h = at_text f vs v h
text_index_reached Optional vs absent f h = tt
text_index_reached Optional vs (present v) f h = at_text f vs v h

-- ---- any index

module _ (vs : List Value) where
  at_item : (is : Items) (i : ℕ) → IsReached vs (list is) → (v : Value) → slice_get (list_of is) i ≡ Some v → IsReached (indexed vs) v
  at_item is i h v e = left (items vs) (entries vs) v (list_items vs is h v (at_index (list_of is) i v e))

  at_key : (es : Entries) (k : List ℕ) → IsReached vs (map es) → (v : Value) → find k es ≡ Some v → IsReached (indexed vs) v
  at_key es k h v e = right (items vs) (entries vs) v (more (fields k vs) (entries vs) v (map_fields vs es h k v e) (fields_among k vs))

  at_reached : (v k : Value) → IsReached vs v → IsOutcomeReached (indexed vs) (at v k)
  at_reached null null h = tt
  at_reached null (boolean b) h = tt
  at_reached null (int z) h = tt
  at_reached null (text s) h = tt
  at_reached null (list is) h = tt
  at_reached null (map es) h = tt
  at_reached (boolean b) k h = tt
  at_reached (int z) k h = tt
  at_reached (text s) k h = tt
  at_reached (list is) null h = tt
  at_reached (list is) (boolean b) h = tt
  at_reached (list is) (int (pos i)) h = optional_reached (indexed vs) (slice_get (list_of is) i) (at_item is i h)
  at_reached (list is) (int (negsuc i)) h = tt
  at_reached (list is) (text s) h = tt
  at_reached (list is) (list js) h = tt
  at_reached (list is) (map es) h = tt
  at_reached (map es) null h = tt
  at_reached (map es) (boolean b) h = tt
  at_reached (map es) (int z) h = tt
  at_reached (map es) (text k) h = optional_reached (indexed vs) (find k es) (at_key es k h)
  at_reached (map es) (list js) h = tt
  at_reached (map es) (map fs) h = tt

  index_of_reached : (v k : Value) → IsReached vs v → IsResultReached (indexed vs) (index_of (value v) (value k))
  index_of_reached (list is) (int (pos i)) h = missing_reached (indexed vs) (slice_get (list_of is) i) (at_item is i h)
  index_of_reached (map es) (text k) h = missing_reached (indexed vs) (find k es) (at_key es k h)
  index_of_reached _ _ h = tt

  pub index_reached : (o : Access) (x k : Outcome) → IsOutcomeReached vs x → IsOutcomeReached (indexed vs) (index_in o x k)
  index_reached Plain (plain v) (plain k) h = outcome_reached (indexed vs) (index_of (value v) (value k)) (index_of_reached v k h)
  index_reached Optional (plain v) (plain k) h = at_reached v k h
  index_reached o (present v) (plain k) h = at_reached v k h
  index_reached _ _ _ h = tt

  -- an item of a list by any index
  list_index : (is : Items) (k : Value) → IsReached vs (list is) → IsResultReached (items vs) (index_of (value (list is)) (value k))
  list_index is (int (pos i)) h =
      missing_reached (items vs) (slice_get (list_of is) i) (λ v e. list_items vs is h v (at_index (list_of is) i v e))
  list_index is _ h = tt

  pub list_index_reached : (is : Items) (k : ValueOrError) → IsReached vs (list is)
      → IsResultReached (items vs) (index_of (value (list is)) k)
  list_index_reached is error h = tt
  list_index_reached is (value k) h = list_index is k h

-- ---- optional values, and the conditional

pub chosen_reached : (vs ws : List Value) (t : Truth) (a b : Outcome) → IsOutcomeReached vs a → IsOutcomeReached ws b
    → IsOutcomeReached (vs ++ ws) (chosen t a b failed)
chosen_reached vs ws Yes a b h g = left_outcome vs ws a h
chosen_reached vs ws No a b h g = right_outcome vs ws b g
chosen_reached vs ws Other a b h g = tt

pub either_reached : (vs ws : List Value) (x y : Outcome) → IsOutcomeReached vs x → IsOutcomeReached ws y
    → IsOutcomeReached (vs ++ ws) (value_or x y)
either_reached vs ws failed y h g = tt
either_reached vs ws (plain v) y h g = tt
either_reached vs ws absent y h g = right_outcome vs ws y g
either_reached vs ws (present v) y h g = left vs ws v h

pub first_of_reached : (vs ws : List Value) (x y : Outcome) → IsOutcomeReached vs x → IsOutcomeReached ws y
    → IsOutcomeReached (vs ++ ws) (first_of x y)
first_of_reached vs ws failed y h g = tt
first_of_reached vs ws (plain v) y h g = tt
first_of_reached vs ws absent y h g = right_outcome vs ws y g
first_of_reached vs ws (present v) y h g = left vs ws v h

pub inner_reached : (vs : List Value) (x : Outcome) → IsOutcomeReached vs x → IsOutcomeReached vs (value_in x)
inner_reached vs failed h = tt
inner_reached vs (plain v) h = tt
inner_reached vs absent h = tt
inner_reached vs (present v) h = h

nonzero_reached : (vs : List Value) (b : Bool) (v : Value) → IsReached vs v → IsOutcomeReached vs (if b then absent else present v)
nonzero_reached vs true v h = tt
nonzero_reached vs false v h = h

pub some_nonzero_reached : (vs : List Value) (x : Outcome) → IsOutcomeReached vs x → IsOutcomeReached vs (some_unless_zero x)
some_nonzero_reached vs failed h = tt
some_nonzero_reached vs (plain v) h = nonzero_reached vs (is_zero v) v h
some_nonzero_reached vs absent h = tt
some_nonzero_reached vs (present v) h = tt
