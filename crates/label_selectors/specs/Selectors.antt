-- Label selectors (Kubernetes, LabelSelector of meta/v1). Texts are bytes in UTF-8.
use Rattle.std.specs.Prelude.{ℕ, Bool, true, false, not, List, [], ◌∷◌, ◌++◌, map, Option, Some, None, bytes_eq, string_bytes, length, ◌==◌, if◌then◌else◌}
use Rattle.std.specs.Borrow.{Bor}
use Rattle.std.specs.List.{list_any, list_all}
use Rattle.label_selectors.specs.declared.operator.Operator.{Operator}
use Rattle.label_selectors.specs.declared.operator.Operator.TheVariants.{In, NotIn, Exists, DoesNotExist}
use Rattle.label_selectors.specs.declared.label.Label.{Label as CodeLabel}
use Rattle.label_selectors.specs.declared.requirement.Requirement.{Requirement as CodeRequirement}
use Rattle.label_selectors.specs.declared.label_selector.LabelSelector.{LabelSelector as CodeLabelSelector}

-- labels: the value at each key that has one
abbrev pub Labels : Type 0
Labels = List ℕ → Option (List ℕ)

-- a requirement on one label (LabelSelectorRequirement)
pub record Requirement : Type 0 where
  pub key : List ℕ
  pub operator : Operator
  pub values : List (List ℕ)

-- an entry of matchLabels
pub record Label : Type 0 where
  pub key : List ℕ
  pub value : List ℕ

-- a selector (LabelSelector)
pub record LabelSelector : Type 0 where
  pub match_labels : List Label
  pub match_expressions : List Requirement

-- the text is one of these
abbrev pub is_one_of : List ℕ → List (List ℕ) → Bool
is_one_of text texts = list_any (bytes_eq text) texts

-- the table of operators: the condition on the value at the key, which may be missing
abbrev pub fits_value : Operator → List (List ℕ) → Option (List ℕ) → Bool
fits_value In values (Some v) = is_one_of v values
fits_value In values None = false
fits_value NotIn values (Some v) = not (is_one_of v values)
fits_value NotIn values None = true
fits_value Exists values (Some v) = true
fits_value Exists values None = false
fits_value DoesNotExist values (Some v) = false
fits_value DoesNotExist values None = true

-- the labels fit the requirement
abbrev pub fits : Labels → Requirement → Bool
fits labels r = fits_value r.operator r.values (labels r.key)

-- the requirement of an entry of matchLabels: the label has exactly this value
abbrev pub label_requirement : Label → Requirement
label_requirement l = record { key = l.key; operator = In; values = l.value ∷ [] }

-- all the requirements of a selector
abbrev pub requirements : LabelSelector → List Requirement
requirements s = map label_requirement s.match_labels ++ s.match_expressions

-- the labels fit all requirements
abbrev pub selects : LabelSelector → Labels → Bool
selects s labels = list_all (fits labels) (requirements s)

-- the selector has no requirement
abbrev pub is_empty : LabelSelector → Bool
is_empty s = length (requirements s) == 0

-- the labels in a list; if a key is repeated, the first one counts
abbrev pub labels_of : List (List ℕ × List ℕ) → Labels
labels_of [] key = None
labels_of (p ∷ ps) key = if bytes_eq p.0 key then Some p.1 else labels_of ps key

-- a requirement of the code
abbrev pub requirement_view : CodeRequirement → Requirement
requirement_view r = record { key = string_bytes r.key; operator = r.operator; values = map string_bytes r.values.items }

-- a label of the code
abbrev pub label_view : CodeLabel → Label
label_view l = record { key = string_bytes l.key; value = string_bytes l.value }

-- a selector of the code
abbrev pub selector_view : CodeLabelSelector → LabelSelector
selector_view s =
    record { match_labels = map label_view s.match_labels.items; match_expressions = map requirement_view s.match_expressions.items }

-- a list of labels of the code
abbrev pub pairs_view : List (Bor (List ℕ) × Bor (List ℕ)) → List (List ℕ × List ℕ)
pairs_view ps = map (λ p. (p.0.now, p.1.now)) ps
