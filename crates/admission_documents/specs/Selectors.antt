-- Label selectors and labels in JSON documents (Kubernetes, LabelSelector and ObjectMeta of meta/v1).
use Rattle.std.specs.Prelude.{ℕ, Bool, true, false, List, [], ◌∷◌, Option, Some, None, option_map, Result, Ok, Err, codes, if◌then◌else◌}
use Rattle.serde_json.specs.Data as json
use Rattle.serde_json.specs.Find.{get_member}
use Rattle.serde_json.specs.View.{view}
use Rattle.label_selectors.specs.Selectors.{Label, Labels, LabelSelector, Requirement}
use Rattle.label_selectors.specs.Storing.{checked_label, checked_requirement}
use Rattle.label_selectors.specs.declared.operator.Operator.{Operator}
use Rattle.label_selectors.specs.declared.selector_error.SelectorError.{SelectorError}
use Rattle.admission_documents.specs.declared.object_labels.ObjectLabels.{ObjectLabels as CodeLabels}
use Rattle.json_fields.specs.Fields.{cons_if, field, field_of, has_only, list_of, text_of, texts_of}

-- an entry of matchLabels, if the API server stores it
abbrev pub stored_label : List ℕ → List ℕ → Result (Unit {0}) SelectorError → Option Label
stored_label key value (Ok u) = Some (record { key = key; value = value })
stored_label key value (Err e) = None

-- an entry of matchLabels; its value is a text
unfoldable pub label_in : List ℕ → json.Data → Option Label
label_in key (json.string value) = stored_label key value (checked_label key value)
label_in key _ = None

-- each entry of matchLabels
abbrev pub each_label : json.Members → Option (List Label)
each_label json.no_members = Some []
each_label (json.member key d ms) = cons_if (label_in key d) (each_label ms)

-- the optional matchLabels, without entries if they are absent
unfoldable pub match_labels_of : Option json.Data → Option (List Label)
match_labels_of None = Some []
match_labels_of (Some (json.object ms)) = each_label ms
match_labels_of (Some _) = None

-- the fields of a requirement
unfoldable pub requirement_keys : List (List ℕ)
requirement_keys = codes "key" ∷ codes "operator" ∷ codes "values" ∷ []

-- a requirement, if the API server stores it
abbrev pub stored_requirement : List ℕ → List (List ℕ) → Result Operator SelectorError → Option Requirement
stored_requirement key values (Ok operator) = Some (record { key = key; operator = operator; values = values })
stored_requirement key values (Err e) = None

-- a requirement, if each of its parts has the right form
abbrev pub requirement_from : Option (List ℕ) → Option (List ℕ) → Option (List (List ℕ)) → Option Requirement
requirement_from (Some key) (Some operator) (Some values) = stored_requirement key values (checked_requirement key operator values)
requirement_from _ _ _ = None

-- its `key` and `operator`, and its optional `values`
unfoldable pub requirement_parts : json.Data → Option Requirement
requirement_parts d = requirement_from
    (text_of (field (codes "key") d)) (text_of (field (codes "operator") d)) (texts_of (field (codes "values") d))

-- an item of matchExpressions
abbrev pub requirement_in : json.Data → Option Requirement
requirement_in d = if has_only requirement_keys d then requirement_parts d else None

-- the optional matchExpressions
unfoldable pub match_expressions_of : Option json.Data → Option (List Requirement)
match_expressions_of o = list_of requirement_in o

-- the fields of a selector
unfoldable pub selector_keys : List (List ℕ)
selector_keys = codes "matchExpressions" ∷ codes "matchLabels" ∷ []

-- a selector, if both of its parts have the right form
abbrev pub selector_from : Option (List Label) → Option (List Requirement) → Option LabelSelector
selector_from (Some labels) (Some requirements) = Some (record { match_labels = labels; match_expressions = requirements })
selector_from _ _ = None

-- its `matchLabels` and `matchExpressions`
unfoldable pub selector_parts : json.Data → Option LabelSelector
selector_parts d = selector_from
    (match_labels_of (field (codes "matchLabels") d)) (match_expressions_of (field (codes "matchExpressions") d))

-- a selector in an object with known keys only
abbrev pub selector_in : json.Data → Option LabelSelector
selector_in d = if has_only selector_keys d then selector_parts d else None

-- the selector without requirements
abbrev pub no_requirements : LabelSelector
no_requirements = record { match_labels = []; match_expressions = [] }

-- an optional selector, without requirements if it is absent
unfoldable pub selector_of : Option json.Data → Option LabelSelector
selector_of None = Some no_requirements
selector_of (Some d) = selector_in d

-- ---- the labels of objects

-- each value is a text
abbrev pub are_texts : json.Members → Bool
are_texts json.no_members = true
are_texts (json.member key (json.string s) ms) = are_texts ms
are_texts (json.member key _ ms) = false

-- the value is a map of texts
abbrev pub is_text_map : Option json.Data → Bool
is_text_map (Some (json.object ms)) = are_texts ms
is_text_map _ = false

-- `metadata.labels` of an object
abbrev pub labels_field : json.Data → Option json.Data
labels_field d = field_of (codes "labels") (field (codes "metadata") d)

-- the text at a key
abbrev pub text_at : Option json.Data → Labels
text_at (Some (json.object ms)) key = text_of (get_member key ms)
text_at _ key = None

-- the value, if it is a map of texts
abbrev pub if_text_map : Option json.Data → Option json.Data
if_text_map o = if is_text_map o then o else None

-- the labels of an object; none if they are absent or not a map of texts
unfoldable pub labels_in : json.Data → Labels
labels_in d = text_at (if_text_map (labels_field d))

-- labels of an object of the code
abbrev pub labels_view : CodeLabels → Labels
labels_view l = text_at (option_map (λ v. view v.now) l.labels)
