-- Examples worked by hand: the table of operators, selectors, and what the API server stores.
use Rattle.std.specs.Prelude.{◌≡◌, ℕ, true, false, List, [], ◌∷◌, ◌++◌, Some, None, Ok, Err, codes, replicate}
use Rattle.label_selectors.specs.Selectors.{Labels, Label, LabelSelector, Requirement, fits_value, is_empty, labels_of, selects}
use Rattle.label_selectors.specs.Storing.{checked_label, checked_requirement, is_label_key, is_label_value}
use Rattle.label_selectors.specs.declared.operator.Operator.{Operator}
use Rattle.label_selectors.specs.declared.operator.Operator.TheVariants.{In, NotIn, Exists, DoesNotExist}
use Rattle.label_selectors.specs.declared.selector_error.SelectorError.TheVariants.{InvalidKey, InvalidOperator, InvalidValue}

abbrev pub one_text : List (List ℕ)
one_text = codes "prod" ∷ []

abbrev pub two_texts : List (List ℕ)
two_texts = codes "dev" ∷ codes "prod" ∷ []

-- the table of operators, one row each
pub record OperatorRowsHold : Type 0 where
  pub in_the_value : fits_value In two_texts (Some (codes "prod")) ≡ true
  pub in_another_value : fits_value In two_texts (Some (codes "test")) ≡ false
  pub in_absent : fits_value In two_texts None ≡ false
  pub in_empty_value : fits_value In ([] ∷ []) (Some []) ≡ true
  pub not_in_the_value : fits_value NotIn two_texts (Some (codes "prod")) ≡ false
  pub not_in_another_value : fits_value NotIn two_texts (Some (codes "test")) ≡ true
  pub not_in_absent : fits_value NotIn two_texts None ≡ true
  pub exists_there : fits_value Exists [] (Some []) ≡ true
  pub exists_absent : fits_value Exists [] None ≡ false
  pub does_not_exist_there : fits_value DoesNotExist [] (Some (codes "prod")) ≡ false
  pub does_not_exist_absent : fits_value DoesNotExist [] None ≡ true

-- the labels env=prod and tier=""
abbrev pub prod : Labels
prod = labels_of ((codes "env", codes "prod") ∷ (codes "tier", []) ∷ [])

abbrev pub no_labels : Labels
no_labels = labels_of []

abbrev pub selector : List Label → List Requirement → LabelSelector
selector ls rs = record { match_labels = ls; match_expressions = rs }

abbrev pub label : List ℕ → List ℕ → Label
label k v = record { key = k; value = v }

abbrev pub asks : List ℕ → Operator → List (List ℕ) → Requirement
asks k o vs = record { key = k; operator = o; values = vs }

-- selectors on labels
pub record SelectorRowsHold : Type 0 where
  pub empty_selects : selects (selector [] []) no_labels ≡ true
  pub empty : is_empty (selector [] []) ≡ true
  pub label_is_no_empty : is_empty (selector (label (codes "env") (codes "prod") ∷ []) []) ≡ false
  pub expression_is_no_empty : is_empty (selector [] (asks (codes "env") DoesNotExist [] ∷ [])) ≡ false
  pub label_there : selects (selector (label (codes "env") (codes "prod") ∷ []) []) prod ≡ true
  pub label_of_another_value : selects (selector (label (codes "env") (codes "dev") ∷ []) []) prod ≡ false
  pub label_absent : selects (selector (label (codes "env") (codes "prod") ∷ []) []) no_labels ≡ false
  pub label_of_the_empty_value : selects (selector (label (codes "tier") [] ∷ []) []) prod ≡ true
  pub empty_value_is_no_absence : selects (selector (label (codes "tier") [] ∷ []) []) no_labels ≡ false
  pub both_lists : selects (selector (label (codes "env") (codes "prod") ∷ []) (asks (codes "tier") DoesNotExist [] ∷ [])) prod ≡ false
  pub both_expressions : selects (selector [] (asks (codes "env") In two_texts ∷ asks (codes "team") NotIn one_text ∷ [])) prod ≡ true
  pub last_expression : selects (selector [] (asks (codes "env") Exists [] ∷ asks (codes "env") NotIn one_text ∷ [])) prod ≡ false

-- keys and values
pub record GrammarRowsHold : Type 0 where
  pub name : is_label_key (codes "env") ≡ true
  pub name_of_all_characters : is_label_key (codes "aZ0-_.9") ≡ true
  pub empty : is_label_key [] ≡ false
  pub ends_in_a_dot : is_label_key (codes "env.") ≡ false
  pub starts_with_a_dash : is_label_key (codes "-env") ≡ false
  pub space : is_label_key (codes "e v") ≡ false
  pub of_63 : is_label_key (replicate 63 97) ≡ true
  pub of_64 : is_label_key (replicate 64 97) ≡ false
  pub prefix : is_label_key (codes "kubernetes.io/metadata.name") ≡ true
  pub prefix_in_capitals : is_label_key (codes "Kubernetes.io/name") ≡ false
  pub prefix_of_an_empty_label : is_label_key (codes "a..b/name") ≡ false
  pub prefix_label_ends_in_a_dash : is_label_key (codes "a-.b/name") ≡ false
  pub prefix_empty : is_label_key (codes "/name") ≡ false
  pub name_empty : is_label_key (codes "a.b/") ≡ false
  pub two_slashes : is_label_key (codes "a/b/c") ≡ false
  pub prefix_of_253 : is_label_key (replicate 253 97 ++ codes "/a") ≡ true
  pub prefix_of_254 : is_label_key (replicate 254 97 ++ codes "/a") ≡ false
  pub value_empty : is_label_value [] ≡ true
  pub value : is_label_value (codes "v1.2_x") ≡ true
  pub value_with_a_slash : is_label_value (codes "a/b") ≡ false
  pub value_of_64 : is_label_value (replicate 64 97) ≡ false

-- requirements that are stored, and the first reason why others are not
pub record StoringRowsHold : Type 0 where
  pub stored : checked_requirement (codes "env") (codes "In") two_texts ≡ Ok In
  pub stored_without_values : checked_requirement (codes "env") (codes "Exists") [] ≡ Ok Exists
  pub unknown_operator : checked_requirement (codes "env") (codes "Gt") one_text ≡ Err InvalidOperator
  pub operator_in_small_letters : checked_requirement (codes "env") (codes "in") one_text ≡ Err InvalidOperator
  pub in_without_values : checked_requirement (codes "env") (codes "In") [] ≡ Err InvalidOperator
  pub not_in_without_values : checked_requirement (codes "env") (codes "NotIn") [] ≡ Err InvalidOperator
  pub exists_with_a_value : checked_requirement (codes "env") (codes "Exists") one_text ≡ Err InvalidOperator
  pub absence_with_a_value : checked_requirement (codes "env") (codes "DoesNotExist") one_text ≡ Err InvalidOperator
  pub value : checked_requirement (codes "env") (codes "NotIn") (codes "prod" ∷ codes "a/b" ∷ []) ≡ Err InvalidValue
  pub key_is_first : checked_requirement (codes "-") (codes "Gt") (codes "a/b" ∷ []) ≡ Err InvalidKey
  pub operator_before_value : checked_requirement (codes "env") (codes "Exists") (codes "a/b" ∷ []) ≡ Err InvalidOperator
  pub label_key : checked_label (codes "a/b/c") (codes "a/b") ≡ Err InvalidKey
  pub label_value : checked_label (codes "env") (codes "a/b") ≡ Err InvalidValue
  pub label : checked_label (codes "env") [] ≡ Ok tt
