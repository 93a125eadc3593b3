-- Rules of match resources on requests, from the matching of the API server (apiserver, package rules; NewMatcher's
-- equivalents), each worked by hand.
use Rattle.std.specs.Prelude.{◌≡◌, ℕ, true, false, List, [], ◌∷◌, codes}
use Rattle.admission_match.specs.Matching.{match_answer}
use Rattle.admission_match.specs.Requests.{Attributes, GroupVersionResource, is_exempt}
use Rattle.admission_match.specs.Rows.{all_rules, core_namespaces, core_pods, create_pod, create_widget, deployments}
use Rattle.admission_match.specs.Rows.{everything, matching, no_env, one_namespace, request, resource, rule_for}
use Rattle.admission_match.specs.Rows.{rule_of, star}
use Rattle.admission_match.specs.Rules.{Rule, fits, is_shared, may_fit}
use Rattle.admission_match.specs.declared.answer.Answer.{Answer}
use Rattle.admission_match.specs.declared.answer.Answer.TheVariants.{No, Unknown, Yes}
use Rattle.admission_match.specs.declared.match_policy.MatchPolicy.{MatchPolicy}
use Rattle.admission_match.specs.declared.match_policy.MatchPolicy.TheVariants.{Exact, Equivalent}
use Rattle.admission_match.specs.declared.operation.Operation.TheVariants.{Create, Update, Delete}
use Rattle.admission_match.specs.declared.scope.Scope.{Scope}
use Rattle.admission_match.specs.declared.scope.Scope.TheVariants.{Cluster, Namespaced}

abbrev pub v1 : List ℕ
v1 = codes "v1"

abbrev pub beta : List ℕ
beta = codes "v1beta1"

-- a rule for this operation alone
abbrev pub on_operation : List ℕ → Rule
on_operation name = record (rule_for Namespaced star) { operations = name ∷ [] }

-- the update of the pod web in prod
abbrev pub update_pod : Attributes
update_pod = request Update core_pods [] (codes "prod") (codes "web")

-- a rule in this scope for namespaces of each version
abbrev pub on_namespaces : Scope → Rule
on_namespaces scope = rule_for scope (codes "namespaces" ∷ [])

-- namespaces of the core group in version v1beta1, which no server serves
abbrev pub beta_namespaces : GroupVersionResource
beta_namespaces = resource [] beta (codes "namespaces")

-- the update of the namespace prod, in version v1 and in version v1beta1
abbrev pub update_namespace : Attributes
update_namespace = request Update core_namespaces [] (codes "prod") (codes "prod")

abbrev pub update_beta_namespace : Attributes
update_beta_namespace = request Update beta_namespaces [] (codes "prod") (codes "prod")

-- each operation has its name; a request on a namespace, which has a namespace, is cluster-scoped only in version v1
pub record RuleRowsHold : Type 0 where
  pub create_is_no_update : fits (on_operation (codes "UPDATE")) create_pod core_pods ≡ false
  pub update : fits (on_operation (codes "UPDATE")) update_pod core_pods ≡ true
  pub update_is_no_create : fits (on_operation (codes "CREATE")) update_pod core_pods ≡ false
  pub update_is_no_delete : fits (on_operation (codes "DELETE")) update_pod core_pods ≡ false
  pub beta_namespaces_are_namespaced : fits (on_namespaces Namespaced) update_beta_namespace beta_namespaces ≡ true
  pub namespaces_are_not_namespaced : fits (on_namespaces Namespaced) update_namespace core_namespaces ≡ false

-- the groups that share a resource, and some that do not
pub record SharedRowsHold : Type 0 where
  pub extensions_and_another : is_shared (codes "extensions") (codes "example.com") (codes "deployments") ≡ false
  pub another_and_apps : is_shared (codes "example.com") (codes "apps") (codes "deployments") ≡ false
  pub pods_of_the_groups_of_events : is_shared [] (codes "events.k8s.io") (codes "pods") ≡ false
  pub events_of_other_groups : is_shared (codes "apps") (codes "extensions") (codes "events") ≡ false
  pub deployments_of_the_groups_of_ingresses : is_shared (codes "extensions") (codes "networking.k8s.io") (codes "deployments") ≡ false
  pub ingresses_of_other_groups : is_shared (codes "example.com") (codes "example.org") (codes "ingresses") ≡ false
  pub events_back : is_shared (codes "events.k8s.io") [] (codes "events") ≡ true

-- the answer of match resources with only these rules; without rules every request matches
abbrev pub answer_by : MatchPolicy → List Rule → Attributes → Answer
answer_by policy rules q = match_answer (record (matching everything everything rules []) { match_policy = policy }) one_namespace q

abbrev pub on_widgets : List ℕ → Rule
on_widgets version = rule_of (codes "example.com") version (codes "widgets")

-- Exact: one of two rules fits, or there are no rules
pub record ExactRowsHold : Type 0 where
  pub one_of_two : answer_by Exact (on_widgets v1 ∷ on_widgets beta ∷ []) create_widget ≡ Yes
  pub none : answer_by Exact [] create_widget ≡ Yes

-- the only version of a rule is the request's, so there is no other in which it may fit
abbrev pub on_own_version : Scope → Rule
on_own_version scope = record (on_widgets beta) { scope = scope }

-- a request on deployments without a namespace
abbrev pub deletion : Attributes
deletion = request Delete (deployments (codes "apps")) [] [] []

abbrev pub on_deployments : Rule
on_deployments = rule_of (codes "extensions") v1 (codes "deployments")

abbrev pub create_deployment : Attributes
create_deployment = request Create (deployments (codes "apps")) [] (codes "prod") (codes "web")

-- Equivalent: what a rule may fit in another version or group
pub record EquivalentAnswersHold : Type 0 where
  -- only namespaces have another scope in another version, and `*` has all versions
  pub namespaces_of_any_version : answer_by Equivalent (on_namespaces Namespaced ∷ []) update_namespace ≡ Unknown
  pub beta_namespaces_of_any_version : answer_by Equivalent (on_namespaces Cluster ∷ []) update_beta_namespace ≡ Unknown
  pub collection_of_any_version : answer_by Equivalent (on_namespaces Namespaced ∷ []) (request Delete core_namespaces [] [] []) ≡ No
  pub pods_of_any_version : answer_by Equivalent (rule_for Cluster (codes "pods" ∷ []) ∷ []) create_pod ≡ No
  pub widgets_of_any_version : answer_by Equivalent (rule_for Cluster (codes "widgets" ∷ []) ∷ []) create_widget ≡ No
  pub no_other_version_is_of_the_cluster : may_fit (on_namespaces Cluster) update_namespace ≡ false
  pub own_version_alone : may_fit (on_widgets beta) create_widget ≡ false
  pub own_version_and_another : may_fit (record (on_widgets beta) { api_versions = beta ∷ v1 ∷ [] }) create_widget ≡ true
  pub own_version_in_another_scope : answer_by Equivalent (on_own_version Cluster ∷ []) create_widget ≡ No
  pub no_versions : answer_by Equivalent (record (on_widgets v1) { api_versions = [] } ∷ []) create_widget ≡ No
  pub other_operation : answer_by Equivalent (record (on_widgets v1) { operations = codes "DELETE" ∷ [] } ∷ []) create_widget ≡ No
  pub other_resource : answer_by Equivalent (rule_of (codes "example.com") v1 (codes "gadgets") ∷ []) create_widget ≡ No
  pub one_of_two_may : answer_by Equivalent (on_widgets v1 ∷ rule_of (codes "example.com") v1 (codes "gadgets") ∷ []) create_widget
      ≡ Unknown
  -- groups that share a resource
  pub group_that_shares_another : answer_by Equivalent (rule_of (codes "apps") v1 (codes "widgets") ∷ []) create_widget ≡ No
  pub shared_without_a_namespace : answer_by Equivalent (record on_deployments { scope = Namespaced } ∷ []) deletion ≡ No
  pub shared_of_the_cluster : answer_by Equivalent (record on_deployments { scope = Cluster } ∷ []) deletion ≡ Unknown
  pub shared_without_versions : answer_by Equivalent (record on_deployments { api_versions = [] } ∷ []) create_deployment ≡ No

-- policies of another group are not exempt
pub record ExemptGroupsHold : Type 0 where
  pub policies_of_another_group : is_exempt (resource (codes "example.com") v1 (codes "validatingadmissionpolicies")) ≡ false
  pub bindings_of_another_group : is_exempt (resource [] v1 (codes "validatingadmissionpolicybindings")) ≡ false

-- a request in a namespace that is not selected does not match, regardless of equivalent resources on the server
pub record NamespaceAnswersHold : Type 0 where
  pub before_rules_that_may_fit : match_answer (matching no_env everything (on_widgets v1 ∷ []) []) one_namespace create_widget ≡ No
  pub before_excludes_that_may_fit : match_answer (matching no_env everything all_rules (on_widgets v1 ∷ [])) one_namespace create_widget
      ≡ No
