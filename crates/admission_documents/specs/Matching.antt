-- Rules and match resources in JSON documents (Kubernetes, NamedRuleWithOperations and MatchResources of
-- admissionregistration.k8s.io/v1), with the API server's defaults.
use Rattle.std.specs.Prelude.{ℕ, Bool, not, ◌==◌, List, [], ◌∷◌, Option, Some, None, codes, length, map, string_bytes, if◌then◌else◌}
use Rattle.std.specs.Str.{bytes_eq}
use Rattle.serde_json.specs.Data as json
use Rattle.label_selectors.specs.Selectors.{LabelSelector}
use Rattle.admission_match.specs.Matching.{MatchResources}
use Rattle.admission_match.specs.Rules.{Rule}
use Rattle.admission_match.specs.declared.match_policy.MatchPolicy.{MatchPolicy}
use Rattle.admission_match.specs.declared.match_policy.MatchPolicy.TheVariants.{Exact, Equivalent}
use Rattle.admission_match.specs.declared.scope.Scope.{Scope}
use Rattle.admission_match.specs.declared.scope.Scope.TheVariants.{All, Cluster, Namespaced}
use Rattle.admission_documents.specs.declared.resource_patterns.ResourcePatterns.{ResourcePatterns as CodePatterns}
use Rattle.json_fields.specs.Fields.{field, has_only, list_of, texts_of}
use Rattle.admission_documents.specs.Selectors.{no_requirements, selector_of}

-- the scope with this name
abbrev pub scope_named : List ℕ → Option Scope
scope_named t =
    if bytes_eq t (codes "*") then Some All
    else (if bytes_eq t (codes "Cluster") then Some Cluster
    else (if bytes_eq t (codes "Namespaced") then Some Namespaced else None))

-- the scope of a rule, `*` by default
unfoldable pub scope_of : Option json.Data → Option Scope
scope_of None = Some All
scope_of (Some (json.string s)) = scope_named s
scope_of (Some _) = None

-- the resources that a rule applies to (Rule)
pub record ResourcePatterns : Type 0 where
  pub scope : Scope
  pub api_groups : List (List ℕ)
  pub api_versions : List (List ℕ)
  pub resources : List (List ℕ)

-- the fields of a rule
unfoldable pub rule_keys : List (List ℕ)
rule_keys =
    codes "apiGroups" ∷ codes "apiVersions" ∷ codes "operations" ∷ codes "resourceNames" ∷ codes "resources" ∷ codes "scope" ∷ []

-- the resources of a rule, if each of their parts has the right form
abbrev pub patterns_from : Option Scope → Option (List (List ℕ)) → Option (List (List ℕ)) → Option (List (List ℕ)) → Option ResourcePatterns
patterns_from (Some scope) (Some groups) (Some versions) (Some resources) = Some (record {
  scope = scope;
  api_groups = groups;
  api_versions = versions;
  resources = resources;
})
patterns_from _ _ _ _ = None

-- its `scope`, `apiGroups`, `apiVersions` and `resources`
unfoldable pub patterns_in : json.Data → Option ResourcePatterns
patterns_in d = patterns_from
    (scope_of (field (codes "scope") d))
    (texts_of (field (codes "apiGroups") d))
    (texts_of (field (codes "apiVersions") d))
    (texts_of (field (codes "resources") d))

-- a rule, if each of its parts has the right form
abbrev pub rule_from : Option ResourcePatterns → Option (List (List ℕ)) → Option (List (List ℕ)) → Option Rule
rule_from (Some p) (Some operations) (Some names) = Some (record {
  scope = p.scope;
  operations = operations;
  api_groups = p.api_groups;
  api_versions = p.api_versions;
  resources = p.resources;
  resource_names = names;
})
rule_from _ _ _ = None

-- its resources, and its `operations` and `resourceNames`
unfoldable pub rule_parts : json.Data → Option Rule
rule_parts d = rule_from (patterns_in d) (texts_of (field (codes "operations") d)) (texts_of (field (codes "resourceNames") d))

-- a rule
abbrev pub rule_in : json.Data → Option Rule
rule_in d = if has_only rule_keys d then rule_parts d else None

-- an optional list of rules
unfoldable pub rules_of : Option json.Data → Option (List Rule)
rules_of o = list_of rule_in o

-- the match policy with this name
abbrev pub match_policy_named : List ℕ → Option MatchPolicy
match_policy_named t =
    if bytes_eq t (codes "Exact") then Some Exact else (if bytes_eq t (codes "Equivalent") then Some Equivalent else None)

-- the match policy, Equivalent by default
unfoldable pub match_policy_of : Option json.Data → Option MatchPolicy
match_policy_of None = Some Equivalent
match_policy_of (Some (json.string s)) = match_policy_named s
match_policy_of (Some _) = None

-- the fields of match resources
unfoldable pub match_keys : List (List ℕ)
match_keys =
    codes "excludeResourceRules" ∷ codes "matchPolicy" ∷ codes "namespaceSelector" ∷ codes "objectSelector" ∷ codes "resourceRules" ∷ []

-- match resources, if each of their parts has the right form
abbrev pub match_from : Option MatchPolicy → Option LabelSelector → Option LabelSelector → Option (List Rule) → Option (List Rule)
    → Option MatchResources
match_from (Some policy) (Some namespaces) (Some objects) (Some rules) (Some excludes) = Some (record {
  match_policy = policy;
  namespace_selector = namespaces;
  object_selector = objects;
  resource_rules = rules;
  exclude_resource_rules = excludes;
})
match_from _ _ _ _ _ = None

-- their parts, all of which are optional
unfoldable pub match_parts : json.Data → Option MatchResources
match_parts d = match_from
    (match_policy_of (field (codes "matchPolicy") d))
    (selector_of (field (codes "namespaceSelector") d))
    (selector_of (field (codes "objectSelector") d))
    (rules_of (field (codes "resourceRules") d))
    (rules_of (field (codes "excludeResourceRules") d))

-- match resources in an object with known keys only
abbrev pub match_in : json.Data → Option MatchResources
match_in d = if has_only match_keys d then match_parts d else None

-- match resources that match every request
abbrev pub match_all : MatchResources
match_all = record {
  match_policy = Equivalent;
  namespace_selector = no_requirements;
  object_selector = no_requirements;
  resource_rules = [];
  exclude_resource_rules = [];
}

-- the match resources of a binding; if they are absent, all requests match
unfoldable pub match_resources_of : Option json.Data → Option MatchResources
match_resources_of None = Some match_all
match_resources_of (Some d) = match_in d

-- the match resources have a rule
abbrev pub has_rules : MatchResources → Bool
has_rules m = not (length m.resource_rules == 0)

-- the match resources, if they have a rule
abbrev pub if_has_rules : Option MatchResources → Option MatchResources
if_has_rules (Some m) = if has_rules m then Some m else None
if_has_rules None = None

-- the match constraints of a policy, which are required and must have a rule
unfoldable pub match_constraints_of : Option json.Data → Option MatchResources
match_constraints_of None = None
match_constraints_of (Some d) = if_has_rules (match_in d)

-- the resources of a rule of the code
abbrev pub patterns_view : CodePatterns → ResourcePatterns
patterns_view p = record {
  scope = p.scope;
  api_groups = map string_bytes p.api_groups.items;
  api_versions = map string_bytes p.api_versions.items;
  resources = map string_bytes p.resources.items;
}
