-- Examples of matching, worked by hand.
use Rattle.std.specs.Prelude.{◌≡◌, ℕ, true, false, List, [], ◌∷◌, Option, Some, None, bytes_eq, codes, if◌then◌else◌}
use Rattle.label_selectors.specs.Selectors.{Labels, LabelSelector, labels_of}
use Rattle.label_selectors.specs.declared.operator.Operator.TheVariants.{DoesNotExist}
use Rattle.admission_match.specs.Matching.{MatchResources, Namespaces, match_answer}
use Rattle.admission_match.specs.Requests.{Attributes, GroupVersionResource, is_exempt}
use Rattle.admission_match.specs.Rules.{Rule, covers, fits, is_candidate, is_shared, rules_answer}
use Rattle.admission_match.specs.declared.answer.Answer.TheVariants.{Yes, No, Unknown, Trouble}
use Rattle.admission_match.specs.declared.match_policy.MatchPolicy.TheVariants.{Exact, Equivalent}
use Rattle.admission_match.specs.declared.operation.Operation.{Operation}
use Rattle.admission_match.specs.declared.operation.Operation.TheVariants.{Create, Update, Delete, Connect}
use Rattle.admission_match.specs.declared.rules_answer.RulesAnswer.TheVariants.{SomeFits, NoneFits, NotKnown}
use Rattle.admission_match.specs.declared.scope.Scope.{Scope}
use Rattle.admission_match.specs.declared.scope.Scope.TheVariants.{All, Cluster, Namespaced}
use Rattle.admission_match.specs.declared.trouble.Trouble.TheVariants.{NoName, NotFound}

abbrev pub pods : List ℕ
pods = codes "pods"

abbrev pub exec : List ℕ
exec = codes "exec"

-- patterns: pods, pods/exec, and other resources
pub record CoversRowsHold : Type 0 where
  pub name_itself : covers pods pods [] ≡ true
  pub name_sub : covers pods pods exec ≡ false
  pub name_other : covers pods (codes "nodes") [] ≡ false
  pub slash_itself : covers (codes "pods/") pods [] ≡ true
  pub slash_sub : covers (codes "pods/") pods exec ≡ false
  pub sub_itself : covers (codes "pods/exec") pods [] ≡ false
  pub sub_sub : covers (codes "pods/exec") pods exec ≡ true
  pub sub_other_sub : covers (codes "pods/exec") pods (codes "log") ≡ false
  pub sub_other : covers (codes "pods/exec") (codes "nodes") exec ≡ false
  pub all_subs_itself : covers (codes "pods/*") pods [] ≡ true
  pub all_subs_sub : covers (codes "pods/*") pods exec ≡ true
  pub all_subs_other : covers (codes "pods/*") (codes "nodes") exec ≡ false
  pub star_itself : covers (codes "*") pods [] ≡ true
  pub star_sub : covers (codes "*") pods exec ≡ false
  pub star_of_sub_itself : covers (codes "*/exec") pods [] ≡ false
  pub star_of_sub : covers (codes "*/exec") pods exec ≡ true
  pub star_of_sub_other : covers (codes "*/exec") (codes "nodes") exec ≡ true
  pub stars_itself : covers (codes "*/*") pods [] ≡ true
  pub stars_sub : covers (codes "*/*") pods exec ≡ true
  pub slash_alone_itself : covers (codes "/") pods [] ≡ false
  pub slash_alone_sub : covers (codes "/") pods exec ≡ false
  pub empty_itself : covers [] pods [] ≡ false
  pub second_slash_is_of_the_sub : covers (codes "pods/a/b") pods (codes "a/b") ≡ true

abbrev pub resource : List ℕ → List ℕ → List ℕ → GroupVersionResource
resource g v x = record { group = g; version = v; resource = x }

-- a request without objects
abbrev pub request : Operation → GroupVersionResource → List ℕ → List ℕ → List ℕ → Attributes
request o x sub ns name = record {
  resource = x;
  subresource = sub;
  name = name;
  namespace = ns;
  operation = o;
  object = None;
  old_object = None;
}

abbrev pub with_objects : Attributes → Option Labels → Option Labels → Attributes
with_objects q new old = record q { object = new; old_object = old }

abbrev pub star : List (List ℕ)
star = codes "*" ∷ []

-- a rule for every operation, group and version, without names
abbrev pub rule_for : Scope → List (List ℕ) → Rule
rule_for scope patterns = record {
  scope = scope;
  operations = star;
  api_groups = star;
  api_versions = star;
  resources = patterns;
  resource_names = [];
}

-- a rule for one group and one version
abbrev pub rule_of : List ℕ → List ℕ → List ℕ → Rule
rule_of g v x = record {
  scope = All;
  operations = star;
  api_groups = g ∷ [];
  api_versions = v ∷ [];
  resources = x ∷ [];
  resource_names = [];
}

abbrev pub core_pods : GroupVersionResource
core_pods = resource [] (codes "v1") pods

abbrev pub core_nodes : GroupVersionResource
core_nodes = resource [] (codes "v1") (codes "nodes")

abbrev pub core_namespaces : GroupVersionResource
core_namespaces = resource [] (codes "v1") (codes "namespaces")

abbrev pub corp_namespaces : GroupVersionResource
corp_namespaces = resource (codes "corp.example.com") (codes "v1") (codes "namespaces")

abbrev pub create_pod : Attributes
create_pod = request Create core_pods [] (codes "prod") (codes "web")

abbrev pub create_node : Attributes
create_node = request Create core_nodes [] [] (codes "n1")

abbrev pub all_namespaces : List (List ℕ)
all_namespaces = codes "namespaces/*" ∷ []

-- single rules
pub record FitsRowsHold : Type 0 where
  pub pod : fits (rule_for All (pods ∷ [])) create_pod core_pods ≡ true
  pub scope_cluster_keeps_out_pods : fits (rule_for Cluster (pods ∷ [])) create_pod core_pods ≡ false
  pub scope_namespaced_has_pods : fits (rule_for Namespaced (pods ∷ [])) create_pod core_pods ≡ true
  pub scope_cluster_has_nodes : fits (rule_for Cluster (codes "nodes" ∷ [])) create_node core_nodes ≡ true
  pub scope_namespaced_keeps_out_nodes : fits (rule_for Namespaced (codes "nodes" ∷ [])) create_node core_nodes ≡ false
  pub namespaces_are_not_namespaced :
      fits (rule_for Namespaced all_namespaces) (request Update core_namespaces (codes "finalize") (codes "prod")
      (codes "prod")) core_namespaces ≡ false
  pub namespaces_are_cluster :
      fits (rule_for Cluster all_namespaces) (request Update core_namespaces (codes "finalize") (codes "prod")
      (codes "prod")) core_namespaces ≡ true
  pub other_namespaces_by_their_namespace :
      fits (rule_for Namespaced all_namespaces) (request Create corp_namespaces [] (codes "prod") (codes "x")) corp_namespaces ≡ true
  pub operation : fits (record (rule_for All star) { operations = codes "UPDATE" ∷ codes "CREATE" ∷ [] }) create_pod core_pods ≡ true
  pub other_operation : fits (record (rule_for All star) { operations = codes "DELETE" ∷ [] }) create_pod core_pods ≡ false
  pub no_operations : fits (record (rule_for All star) { operations = [] }) create_pod core_pods ≡ false
  pub no_groups : fits (record (rule_for All star) { api_groups = [] }) create_pod core_pods ≡ false
  pub group_of_the_core : fits (rule_of [] (codes "v1") pods) create_pod core_pods ≡ true
  pub other_group : fits (rule_of (codes "apps") (codes "v1") pods) create_pod core_pods ≡ false
  pub other_version : fits (rule_of [] (codes "v2") pods) create_pod core_pods ≡ false
  pub named : fits (record (rule_for All star) { resource_names = codes "web" ∷ [] }) create_pod core_pods ≡ true
  pub other_name : fits (record (rule_for All star) { resource_names = codes "db" ∷ [] }) create_pod core_pods ≡ false
  pub generated_name :
      fits (record (rule_for All star) { resource_names = codes "web" ∷ [] })
      (request Create core_pods [] (codes "prod") []) core_pods ≡ false
  pub generated_name_fits_the_empty_one :
      fits (record (rule_for All star) { resource_names = [] ∷ [] }) (request Create core_pods [] (codes "prod") []) core_pods ≡ true

abbrev pub widgets : List ℕ → GroupVersionResource
widgets v = resource (codes "example.com") v (codes "widgets")

abbrev pub create_widget : Attributes
create_widget = request Create (widgets (codes "v1beta1")) [] (codes "prod") (codes "w")

abbrev pub deployments : List ℕ → GroupVersionResource
deployments g = resource g (codes "v1") (codes "deployments")

-- equivalent resources, and lists of rules
pub record EquivalentRowsHold : Type 0 where
  pub itself : is_candidate (widgets (codes "v1")) (widgets (codes "v1")) ≡ false
  pub other_version : is_candidate (widgets (codes "v1")) (widgets (codes "v2")) ≡ true
  pub other_resource : is_candidate core_pods core_nodes ≡ false
  pub other_group : is_candidate (deployments (codes "apps")) (deployments (codes "extensions")) ≡ true
  pub other_group_back : is_candidate (deployments (codes "extensions")) (deployments (codes "apps")) ≡ true
  pub groups_that_share_nothing : is_candidate (deployments (codes "apps")) (deployments (codes "example.com")) ≡ false
  pub events : is_shared [] (codes "events.k8s.io") (codes "events") ≡ true
  pub ingresses : is_shared (codes "networking.k8s.io") (codes "extensions") (codes "ingresses") ≡ true
  pub ingresses_of_apps : is_shared (codes "apps") (codes "extensions") (codes "ingresses") ≡ false
  pub unknown : rules_answer Equivalent (rule_of (codes "example.com") (codes "v1") (codes "widgets") ∷ []) create_widget ≡ NotKnown
  pub exact : rules_answer Exact (rule_of (codes "example.com") (codes "v1") (codes "widgets") ∷ []) create_widget ≡ NoneFits
  pub own_version :
      rules_answer Equivalent (rule_of (codes "example.com") (codes "v1") (codes "widgets")
      ∷ rule_of (codes "example.com") (codes "v1beta1") (codes "widgets") ∷ []) create_widget ≡ SomeFits
  pub other_widgets : rules_answer Equivalent (rule_of (codes "example.org") (codes "v1") (codes "widgets") ∷ []) create_widget ≡ NoneFits
  pub shared_group :
      rules_answer Equivalent (rule_of (codes "extensions") (codes "v1beta1") (codes "deployments") ∷ [])
      (request Create (deployments (codes "apps")) [] (codes "prod") (codes "web")) ≡ NotKnown
  pub no_rules : rules_answer Equivalent [] create_pod ≡ NoneFits

abbrev pub of_admission : List ℕ → GroupVersionResource
of_admission x = resource (codes "admissionregistration.k8s.io") (codes "v1") x

-- exempt resources
pub record ExemptRowsHold : Type 0 where
  pub policies : is_exempt (of_admission (codes "validatingadmissionpolicies")) ≡ true
  pub bindings : is_exempt (of_admission (codes "validatingadmissionpolicybindings")) ≡ true
  pub mutating_policies : is_exempt (of_admission (codes "mutatingadmissionpolicies")) ≡ true
  pub mutating_bindings : is_exempt (of_admission (codes "mutatingadmissionpolicybindings")) ≡ true
  pub webhooks : is_exempt (of_admission (codes "validatingwebhookconfigurations")) ≡ false
  pub own_review : is_exempt (resource (codes "authentication.k8s.io") (codes "v1") (codes "selfsubjectreviews")) ≡ true
  pub tokens : is_exempt (resource (codes "authentication.k8s.io") (codes "v1beta1") (codes "tokenreviews")) ≡ true
  pub local_access : is_exempt (resource (codes "authorization.k8s.io") (codes "v1") (codes "localsubjectaccessreviews")) ≡ true
  pub own_access : is_exempt (resource (codes "authorization.k8s.io") (codes "v1") (codes "selfsubjectaccessreviews")) ≡ true
  pub own_rules : is_exempt (resource (codes "authorization.k8s.io") (codes "v1") (codes "selfsubjectrulesreviews")) ≡ true
  pub access : is_exempt (resource (codes "authorization.k8s.io") (codes "v1") (codes "subjectaccessreviews")) ≡ true
  pub other_of_authorization : is_exempt (resource (codes "authorization.k8s.io") (codes "v1") (codes "tokenreviews")) ≡ false
  pub other_of_authentication : is_exempt (resource (codes "authentication.k8s.io") (codes "v1") (codes "subjectaccessreviews")) ≡ false
  pub other_group : is_exempt (resource (codes "example.com") (codes "v1") (codes "tokenreviews")) ≡ false
  pub pods : is_exempt core_pods ≡ false

abbrev pub everything : LabelSelector
everything = record { match_labels = []; match_expressions = [] }

abbrev pub prod_only : LabelSelector
prod_only = record { match_labels = record { key = codes "env"; value = codes "prod" } ∷ []; match_expressions = [] }

abbrev pub no_env : LabelSelector
no_env = record { match_labels = []; match_expressions = record { key = codes "env"; operator = DoesNotExist; values = [] } ∷ [] }

abbrev pub env : List ℕ → Labels
env value = labels_of ((codes "env", value) ∷ [])

-- the only namespace is `prod`, with the label env=prod
abbrev pub one_namespace : Namespaces
one_namespace name = if bytes_eq name (codes "prod") then Some (env (codes "prod")) else None

abbrev pub matching : LabelSelector → LabelSelector → List Rule → List Rule → MatchResources
matching namespaces objects rules excludes = record {
  match_policy = Equivalent;
  namespace_selector = namespaces;
  object_selector = objects;
  resource_rules = rules;
  exclude_resource_rules = excludes;
}

abbrev pub all_rules : List Rule
all_rules = rule_for All (codes "*/*" ∷ []) ∷ []

-- match resources on requests
pub record MatchRowsHold : Type 0 where
  pub defaults : match_answer (matching everything everything [] []) one_namespace create_pod ≡ Yes
  pub no_rule_fits : match_answer (matching everything everything (rule_for All (codes "nodes" ∷ []) ∷ []) []) one_namespace create_pod ≡ No
  pub excluded : match_answer (matching everything everything all_rules all_rules) one_namespace create_pod ≡ No
  pub unknown :
      match_answer (matching everything everything (rule_of (codes "example.com") (codes "v1") (codes "widgets")
      ∷ []) []) one_namespace create_widget ≡ Unknown
  pub unknown_exclude :
      match_answer (matching everything everything all_rules (rule_of (codes "example.com") (codes "v1")
      (codes "widgets") ∷ [])) one_namespace create_widget ≡ Unknown
  pub selected_namespace : match_answer (matching prod_only everything all_rules []) one_namespace create_pod ≡ Yes
  pub kept_out : match_answer (matching no_env everything all_rules []) one_namespace create_pod ≡ No
  pub nodes_are_not_kept_out : match_answer (matching prod_only everything all_rules []) one_namespace create_node ≡ Yes
  pub deleted_namespace_by_the_state :
      match_answer (matching prod_only everything all_rules []) one_namespace
      (with_objects (request Delete core_namespaces [] (codes "prod") (codes "prod")) None (Some (env (codes "dev")))) ≡ Yes
  pub new_namespace_by_the_object :
      match_answer (matching prod_only everything all_rules []) one_namespace
      (with_objects (request Create core_namespaces [] (codes "new") (codes "new")) (Some (env (codes "prod"))) None) ≡ Yes
  pub updated_namespace_by_the_new_object :
      match_answer (matching prod_only everything all_rules []) one_namespace
      (with_objects (request Update core_namespaces [] (codes "prod") (codes "prod")) (Some (env (codes "dev")))
      (Some (env (codes "prod")))) ≡ No
  pub finalized_namespace_by_the_state :
      match_answer (matching prod_only everything all_rules []) one_namespace
      (with_objects (request Update core_namespaces (codes "finalize") (codes "prod") (codes "prod"))
      (Some (env (codes "dev"))) None) ≡ Yes
  pub collection_of_namespaces :
      match_answer (matching prod_only everything all_rules []) one_namespace (request Delete core_namespaces [] [] []) ≡ Trouble NoName
  pub namespace_not_there :
      match_answer (matching prod_only everything all_rules []) one_namespace
      (request Create core_pods [] (codes "gone") (codes "web")) ≡ Trouble NotFound
  pub namespace_not_there_without_a_selector :
      match_answer (matching everything everything all_rules []) one_namespace
      (request Create core_pods [] (codes "gone") (codes "web")) ≡ Yes
  pub no_rule_fits_before_the_trouble :
      match_answer (matching prod_only everything (rule_for All (codes "nodes" ∷ []) ∷ []) []) one_namespace
      (request Create core_pods [] (codes "gone") (codes "web")) ≡ No
  pub object_selected :
      match_answer (matching everything prod_only all_rules []) one_namespace
      (with_objects create_pod (Some (env (codes "prod"))) None) ≡ Yes
  pub old_object_selected :
      match_answer (matching everything prod_only all_rules []) one_namespace
      (with_objects create_pod (Some (env (codes "dev"))) (Some (env (codes "prod")))) ≡ Yes
  pub object_not_selected :
      match_answer (matching everything prod_only all_rules []) one_namespace (with_objects create_pod (Some (env (codes "dev"))) None) ≡ No
  pub options_of_exec_have_no_metadata :
      match_answer (matching everything no_env all_rules []) one_namespace
      (request Connect core_pods exec (codes "prod") (codes "web")) ≡ No
  pub object_without_labels :
      match_answer (matching everything no_env all_rules []) one_namespace (with_objects create_pod (Some (labels_of [])) None) ≡ Yes
