-- Edge cases of matching, worked by hand: other resources, scopes of the namespaces of two groups, old objects, the
-- order of the tests, and answers that are unknown.
use Rattle.std.specs.Prelude.{◌≡◌, ℕ, true, false, List, [], ◌∷◌, Some, None, codes}
use Rattle.admission_match.specs.Laws.{server_answer}
use Rattle.admission_match.specs.Matching.{MatchResources, match_answer}
use Rattle.admission_match.specs.Requests.{Attributes, GroupVersionResource}
use Rattle.admission_match.specs.Rows.{all_namespaces, all_rules, core_namespaces, core_pods, corp_namespaces, create_pod, create_widget, deployments, env, everything, exec, matching, one_namespace, prod_only, request, resource, rule_for, rule_of, star, widgets, with_objects}
use Rattle.admission_match.specs.Rules.{Rule, covers, fits, is_shared, rules_answer}
use Rattle.admission_match.specs.declared.answer.Answer.TheVariants.{Yes, No, Unknown, Trouble}
use Rattle.admission_match.specs.declared.match_policy.MatchPolicy.TheVariants.{Exact, Equivalent}
use Rattle.admission_match.specs.declared.operation.Operation.TheVariants.{Create, Update, Delete, Connect}
use Rattle.admission_match.specs.declared.rules_answer.RulesAnswer.TheVariants.{NoneFits, NotKnown}
use Rattle.admission_match.specs.declared.scope.Scope.{Scope}
use Rattle.admission_match.specs.declared.scope.Scope.TheVariants.{All, Cluster, Namespaced}
use Rattle.admission_match.specs.declared.trouble.Trouble.TheVariants.{NoName}

abbrev pub exact_matching : List Rule → MatchResources
exact_matching rules = record (matching everything everything rules []) { match_policy = Exact }

abbrev pub v1 : List ℕ
v1 = codes "v1"

abbrev pub of_widgets : List Rule
of_widgets = rule_of (codes "example.com") v1 (codes "widgets") ∷ []

abbrev pub on_nodes : List Rule
on_nodes = rule_of [] v1 (codes "nodes") ∷ []

abbrev pub on_core_namespaces : Scope → List Rule
on_core_namespaces scope = record (rule_of [] v1 (codes "namespaces")) { scope = scope } ∷ []

-- the update of a namespace in version v1beta1 of the core group, which no server serves
abbrev pub update_beta_namespace : Attributes
update_beta_namespace = request Update (resource [] (codes "v1beta1") (codes "namespaces")) [] (codes "prod") (codes "prod")

-- a pod in a namespace that does not exist
abbrev pub gone_pod : Attributes
gone_pod = request Create core_pods [] (codes "gone") (codes "web")

-- patterns of other resources; rules for one operation, and rules with an empty list
pub record RuleBordersHold : Type 0 where
  pub slash_other : covers (codes "pods/") (codes "nodes") [] ≡ false
  pub star_other : covers (codes "*") (codes "nodes") [] ≡ true
  pub stars_other : covers (codes "*/*") (codes "nodes") exec ≡ true
  pub namespaces_of_a_group_are_namespaced :
      fits (rule_for Cluster all_namespaces) (request Create corp_namespaces [] (codes "prod") (codes "x")) corp_namespaces ≡ false
  pub delete :
      fits (record (rule_for All star) { operations = codes "DELETE" ∷ [] })
      (request Delete core_pods [] (codes "prod") (codes "web")) core_pods ≡ true
  pub connect :
      fits (record (rule_for All star) { operations = codes "CONNECT" ∷ [] })
      (request Connect core_pods [] (codes "prod") (codes "web")) core_pods ≡ true
  pub no_versions : fits (record (rule_for All star) { api_versions = [] }) create_pod core_pods ≡ false
  pub no_resources : fits (record (rule_for All star) { resources = [] }) create_pod core_pods ≡ false

-- the other shared resources, and the scope of a resource in another version or group
pub record EquivalentBordersHold : Type 0 where
  pub daemonsets : is_shared (codes "apps") (codes "extensions") (codes "daemonsets") ≡ true
  pub replicasets : is_shared (codes "extensions") (codes "apps") (codes "replicasets") ≡ true
  pub networkpolicies : is_shared (codes "extensions") (codes "networking.k8s.io") (codes "networkpolicies") ≡ true
  pub statefulsets : is_shared (codes "extensions") (codes "apps") (codes "statefulsets") ≡ false
  pub scope_in_another_version :
      rules_answer Equivalent (record (rule_of (codes "example.com") v1 (codes "widgets")) { scope = Cluster }
      ∷ []) create_widget ≡ NoneFits
  pub core_namespaces_are_cluster_scoped : rules_answer Equivalent (on_core_namespaces Cluster) update_beta_namespace ≡ NotKnown
  pub core_namespaces_are_not_namespaced : rules_answer Equivalent (on_core_namespaces Namespaced) update_beta_namespace ≡ NoneFits
  pub scope_in_another_group :
      rules_answer Equivalent (record (rule_of (codes "extensions") v1 (codes "deployments")) { scope = Cluster }
      ∷ []) (request Create (deployments (codes "apps")) [] (codes "prod") (codes "web")) ≡ NoneFits

-- namespaces of another group, old objects, the order of the tests, and Exact
pub record MatchBordersHold : Type 0 where
  pub namespaces_of_a_group_by_their_object :
      match_answer (matching prod_only everything all_rules []) one_namespace
      (with_objects (request Create corp_namespaces [] [] (codes "x")) (Some (env (codes "dev"))) None) ≡ No
  pub collection_of_namespaces_of_a_group :
      match_answer (matching prod_only everything all_rules []) one_namespace (request Delete corp_namespaces [] [] []) ≡ Trouble NoName
  pub collection_under_an_empty_selector :
      match_answer (matching everything everything all_rules []) one_namespace (request Delete core_namespaces [] [] []) ≡ Yes
  pub deleted_object :
      match_answer (matching everything prod_only all_rules []) one_namespace
      (with_objects (request Delete core_pods [] (codes "prod") (codes "web")) None (Some (env (codes "prod")))) ≡ Yes
  pub exclude_before_trouble : match_answer (matching prod_only everything all_rules all_rules) one_namespace gone_pod ≡ No
  pub unknown_exclude_before_trouble :
      match_answer (matching prod_only everything all_rules of_widgets) one_namespace
      (request Create (widgets (codes "v1beta1")) [] (codes "gone") (codes "w")) ≡ Unknown
  pub exact : match_answer (exact_matching of_widgets) one_namespace create_widget ≡ No

-- unknown although each server answers no: an exclude that may fit is tested before rules that fit on no server, or
-- only on those where the exclude fits too
pub record UnknownBordersHold : Type 0 where
  pub the_same_rules : match_answer (matching everything everything of_widgets of_widgets) one_namespace create_widget ≡ Unknown
  pub the_same_rules_without : server_answer [] (matching everything everything of_widgets of_widgets) one_namespace create_widget ≡ No
  pub the_same_rules_with :
      server_answer (widgets v1 ∷ []) (matching everything everything of_widgets of_widgets) one_namespace create_widget ≡ No
  pub other_rules : match_answer (matching everything everything on_nodes of_widgets) one_namespace create_widget ≡ Unknown
  pub other_rules_without : server_answer [] (matching everything everything on_nodes of_widgets) one_namespace create_widget ≡ No
  pub other_rules_with :
      server_answer (widgets v1 ∷ []) (matching everything everything on_nodes of_widgets) one_namespace create_widget ≡ No

pub record BorderRowsHold : Type 0 where
  pub rules : RuleBordersHold
  pub equivalents : EquivalentBordersHold
  pub matches : MatchBordersHold
  pub unknown : UnknownBordersHold
