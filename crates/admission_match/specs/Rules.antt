-- Rules (Kubernetes, NamedRuleWithOperations): the requests that they fit, and the effect of equivalent resources.
use Rattle.std.specs.Prelude.{ℕ, ◌+◌, Bool, true, not, ◌&&◌, ◌||◌, ◌==◌, List, [], ◌∷◌, map, Option, Some, None, bytes_eq, string_bytes, codes, length, take, drop, position, if◌then◌else◌}
use Rattle.std.specs.List.{list_any}
use Rattle.label_selectors.specs.Selectors.{is_one_of}
use Rattle.admission_match.specs.Requests.{Attributes, GroupVersionResource, is_core_namespaces, operation_name}
use Rattle.admission_match.specs.declared.match_policy.MatchPolicy.{MatchPolicy}
use Rattle.admission_match.specs.declared.match_policy.MatchPolicy.TheVariants.{Exact, Equivalent}
use Rattle.admission_match.specs.declared.rule.Rule.{Rule as CodeRule}
use Rattle.admission_match.specs.declared.rules_answer.RulesAnswer.{RulesAnswer}
use Rattle.admission_match.specs.declared.rules_answer.RulesAnswer.TheVariants.{SomeFits, NoneFits, NotKnown}
use Rattle.admission_match.specs.declared.scope.Scope.{Scope}
use Rattle.admission_match.specs.declared.scope.Scope.TheVariants.{All, Cluster, Namespaced}

-- a match rule
pub record Rule : Type 0 where
  pub scope : Scope
  pub operations : List (List ℕ)
  pub api_groups : List (List ℕ)
  pub api_versions : List (List ℕ)
  pub resources : List (List ℕ)
  pub resource_names : List (List ℕ)

-- the pattern is `*` or equals this text
abbrev pub is_or_any : List ℕ → List ℕ → Bool
is_or_any pattern text = bytes_eq pattern (codes "*") || bytes_eq pattern text

-- the list contains `*` or this text
abbrev pub has_or_any : List (List ℕ) → List ℕ → Bool
has_or_any patterns text = list_any (λ p. is_or_any p text) patterns

-- a pattern covers a resource and a subresource; this is the place of its first slash, if it has one
abbrev pub covers_cut : Option ℕ → List ℕ → List ℕ → List ℕ → Bool
covers_cut None pattern resource sub = is_or_any pattern resource && is_or_any [] sub
covers_cut (Some at) pattern resource sub = is_or_any (take at pattern) resource && is_or_any (drop (at + 1) pattern) sub

-- a pattern of a rule's `resources`, split at its first slash, covers a resource and a subresource, which is empty
-- for the resource itself
unfoldable pub covers : List ℕ → List ℕ → List ℕ → Bool
covers pattern resource sub = covers_cut (position (λ c. c == 47) pattern) pattern resource sub

-- the scope includes a request that is, or is not, cluster-scoped
abbrev pub scope_fits : Scope → Bool → Bool
scope_fits All cluster = true
scope_fits Cluster cluster = cluster
scope_fits Namespaced cluster = not cluster

-- a request is cluster-scoped if it has no namespace or is on the namespaces of the core group
abbrev pub is_cluster : Attributes → GroupVersionResource → Bool
is_cluster q x = is_core_namespaces x || length q.namespace == 0

-- a pattern covers the resource with the request's subresource
abbrev pub covers_one : List (List ℕ) → List ℕ → List ℕ → Bool
covers_one patterns resource sub = list_any (λ p. covers p resource sub) patterns

-- the list is empty or contains this name
abbrev pub has_name : List (List ℕ) → List ℕ → Bool
has_name names name = length names == 0 || is_one_of name names

-- the request's operation and name fit the rule
abbrev pub fits_request : Rule → Attributes → Bool
fits_request r q = has_or_any r.operations (operation_name q.operation) && has_name r.resource_names q.name

-- a rule fits a request under this resource
unfoldable pub fits : Rule → Attributes → GroupVersionResource → Bool
fits r q x =
    fits_request r q && scope_fits r.scope (is_cluster q x) && has_or_any r.api_groups x.group
    && has_or_any r.api_versions x.version && covers_one r.resources x.resource q.subresource

-- these are the two groups, in either order
abbrev pub are : List ℕ → List ℕ → List ℕ → List ℕ → Bool
are g h a b = (bytes_eq g a && bytes_eq h b) || (bytes_eq g b && bytes_eq h a)

-- the two groups store this resource in one place
unfoldable pub is_shared : List ℕ → List ℕ → List ℕ → Bool
is_shared g h x =
    (are g h [] (codes "events.k8s.io") && is_one_of x (codes "events" ∷ []))
    || (are g h (codes "extensions") (codes "apps") && is_one_of x (codes "deployments" ∷ codes "daemonsets" ∷ codes "replicasets" ∷ []))
    || (are g h (codes "extensions") (codes "networking.k8s.io") && is_one_of x (codes "ingresses" ∷ codes "networkpolicies" ∷ []))

-- another resource that a server may store in the same place as this one: another version of it, or a version of it
-- in a group that shares it
unfoldable pub is_candidate : GroupVersionResource → GroupVersionResource → Bool
is_candidate x c =
    bytes_eq c.resource x.resource
    && ((bytes_eq c.group x.group && not (bytes_eq c.version x.version)) || is_shared x.group c.group x.resource)

-- the same resource in another version
abbrev pub at_version : GroupVersionResource → List ℕ → GroupVersionResource
at_version x v = record x { version = v }

-- A pattern of `apiVersions` has a version other than the request's in which the scope fits. Only version v1 of the
-- core namespaces has a different scope, so for `*` it is enough to test this version and one other.
abbrev pub fits_other_version : Rule → Attributes → List ℕ → Bool
fits_other_version r q p =
    if bytes_eq p (codes "*")
    then scope_fits r.scope (length q.namespace == 0)
    || (not (bytes_eq q.resource.version (codes "v1")) && scope_fits r.scope (is_cluster q (at_version q.resource (codes "v1"))))
    else not (bytes_eq p q.resource.version) && scope_fits r.scope (is_cluster q (at_version q.resource p))

-- the rule fits another version of the request's resource
abbrev pub fits_own_group : Rule → Attributes → Bool
fits_own_group r q = has_or_any r.api_groups q.resource.group && list_any (fits_other_version r q) r.api_versions

-- the groups that share a resource with another group
abbrev pub sharing_groups : List (List ℕ)
sharing_groups = [] ∷ codes "events.k8s.io" ∷ codes "extensions" ∷ codes "apps" ∷ codes "networking.k8s.io" ∷ []

-- the rule fits a version of the request's resource in a group that shares it
abbrev pub fits_shared_group : Rule → Attributes → Bool
fits_shared_group r q =
    scope_fits r.scope (length q.namespace == 0) && not (length r.api_versions == 0)
    && list_any (λ h. is_shared q.resource.group h q.resource.resource && has_or_any r.api_groups h) sharing_groups

-- whether a rule may fit, computed without a list of the candidates
unfoldable pub may_fit : Rule → Attributes → Bool
may_fit r q =
    fits_request r q && covers_one r.resources q.resource.resource q.subresource && (fits_own_group r q || fits_shared_group r q)

-- the answer of a list of rules: yes if one fits; otherwise, under Equivalent, unknown if one may fit
abbrev pub rules_answer : MatchPolicy → List Rule → Attributes → RulesAnswer
rules_answer Exact rs q = if list_any (λ r. fits r q q.resource) rs then SomeFits else NoneFits
rules_answer Equivalent rs q =
    if list_any (λ r. fits r q q.resource) rs then SomeFits
    else (if list_any (λ r. may_fit r q) rs then NotKnown else NoneFits)

-- a rule of the code
abbrev pub rule_view : CodeRule → Rule
rule_view r = record {
  scope = r.scope;
  operations = map string_bytes r.operations.items;
  api_groups = map string_bytes r.api_groups.items;
  api_versions = map string_bytes r.api_versions.items;
  resources = map string_bytes r.resources.items;
  resource_names = map string_bytes r.resource_names.items;
}
