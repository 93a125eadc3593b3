-- Records all of whose parts are there.
use Rattle.admission_documents.proofs.Prelude.{◌≡◌, List, ℕ, Some, refl, codes, Label, LabelSelector, Requirement, MatchPolicy, Rule, field, texts_of, selector_parts, match_labels_of, match_expressions_of, selector_of, rules_of, match_policy_of, match_parts, ResourcePatterns, patterns_in, rule_parts}
use Rattle.serde_json.specs.Data as json

pub selector_whole : (d : json.Data) (ls : List Label) (rs : List Requirement) → match_labels_of (field (codes "matchLabels") d) ≡ Some ls
    → match_expressions_of (field (codes "matchExpressions") d) ≡ Some rs → selector_parts d ≡ Some (record { match_labels = ls; match_expressions = rs })
unfolding selector_parts
selector_whole d ls rs e f = rw (e, f) refl

pub rule_whole : (d : json.Data) (p : ResourcePatterns) (os ns : List (List ℕ)) → patterns_in d ≡ Some p → texts_of (field (codes "operations") d) ≡ Some os
    → texts_of (field (codes "resourceNames") d) ≡ Some ns
    → rule_parts d ≡ Some (record { scope = p.scope; operations = os; api_groups = p.api_groups; api_versions = p.api_versions; resources = p.resources; resource_names = ns })
unfolding rule_parts
rule_whole d p os ns e f g = rw (e, f, g) refl

pub match_whole : (d : json.Data) (p : MatchPolicy) (ns os : LabelSelector) (rs xs : List Rule) → match_policy_of (field (codes "matchPolicy") d) ≡ Some p
    → selector_of (field (codes "namespaceSelector") d) ≡ Some ns → selector_of (field (codes "objectSelector") d) ≡ Some os
    → rules_of (field (codes "resourceRules") d) ≡ Some rs → rules_of (field (codes "excludeResourceRules") d) ≡ Some xs
    → match_parts d ≡ Some (record { match_policy = p; namespace_selector = ns; object_selector = os; resource_rules = rs; exclude_resource_rules = xs })
unfolding match_parts
match_whole d p ns os rs xs a b e f g = rw (a, b, e, f, g) refl
