-- Literal documents, and what the definitions read in them.
use Rattle.std.specs.Prelude.{◌≡◌, ℕ, Bool, true, false, List, [], ◌∷◌, ◌++◌, Option, Some, None, codes, is_some, option_and_then, option_map}
use Rattle.serde_json.specs.Data as json
use Rattle.serde_json.specs.Read.{read}
use Rattle.label_selectors.specs.Selectors.{Label, Labels, LabelSelector, Requirement}
use Rattle.label_selectors.specs.declared.operator.Operator.{Operator}
use Rattle.label_selectors.specs.declared.operator.Operator.TheVariants.{In, NotIn, Exists, DoesNotExist}
use Rattle.admission_match.specs.Matching.{MatchResources}
use Rattle.admission_match.specs.Rules.{Rule}
use Rattle.admission_match.specs.declared.match_policy.MatchPolicy.TheVariants.{Exact, Equivalent}
use Rattle.admission_match.specs.declared.operation.Operation.TheVariants.{Create, Update, Delete, Connect}
use Rattle.admission_match.specs.declared.scope.Scope.TheVariants.{All, Cluster, Namespaced}
use Rattle.json_fields.specs.Fields.{present}
use Rattle.admission_documents.specs.Matching.{match_all, match_constraints_of, match_resources_of}
use Rattle.admission_documents.specs.Requests.{GroupVersionKind, Request, is_core_namespace, request_in}
use Rattle.admission_documents.specs.Selectors.{labels_in, no_requirements, selector_of}

-- ---- selectors

abbrev pub selector : List ℕ → Option LabelSelector
selector text = selector_of (present (read text))

abbrev pub expression : List ℕ → Operator → List (List ℕ) → Option LabelSelector
expression key operator values = Some (record {
  match_labels = [];
  match_expressions = record { key = key; operator = operator; values = values } ∷ [];
})

pub record SelectorDocumentRowsHold : Type 0 where
  pub labels : selector (codes "{\"matchLabels\":{\"env\":\"prod\"}}")
      ≡ Some (record { match_labels = record { key = codes "env"; value = codes "prod" } ∷ []; match_expressions = [] })
  pub values : selector (codes "{\"matchExpressions\":[{\"key\":\"env\",\"operator\":\"In\",\"values\":[\"prod\"]}]}")
      ≡ expression (codes "env") In (codes "prod" ∷ [])
  pub no_values : selector (codes "{\"matchExpressions\":[{\"key\":\"env\",\"operator\":\"Exists\",\"values\":null}]}")
      ≡ expression (codes "env") Exists []
  pub absent : selector_of None ≡ Some no_requirements
  pub empty : selector (codes "{}") ≡ Some no_requirements
  pub empty_lists : selector (codes "{\"matchLabels\":{},\"matchExpressions\":[]}") ≡ Some no_requirements
  pub null_is_absent : selector (codes "null") ≡ Some no_requirements
  pub null_labels : selector (codes "{\"matchLabels\":null}") ≡ Some no_requirements
  pub unknown_key : selector (codes "{\"matchLabel\":{}}") ≡ None
  pub list : selector (codes "[]") ≡ None
  pub number_as_value : selector (codes "{\"matchLabels\":{\"env\":1}}") ≡ None
  pub value_with_blank : selector (codes "{\"matchLabels\":{\"env\":\"a b\"}}") ≡ None
  pub lower_case_operator : selector (codes "{\"matchExpressions\":[{\"key\":\"env\",\"operator\":\"in\",\"values\":[\"prod\"]}]}") ≡ None
  pub in_without_values : selector (codes "{\"matchExpressions\":[{\"key\":\"env\",\"operator\":\"In\"}]}") ≡ None
  pub exists_with_values : selector (codes "{\"matchExpressions\":[{\"key\":\"env\",\"operator\":\"Exists\",\"values\":[\"a\"]}]}") ≡ None

-- the labels of a document
abbrev pub label_at : List ℕ → Option json.Data → Option (List ℕ)
label_at key (Some d) = labels_in d key
label_at key None = None

pub record LabelRowsHold : Type 0 where
  pub label : label_at (codes "env") (read (codes "{\"metadata\":{\"labels\":{\"env\":\"prod\"}}}")) ≡ Some (codes "prod")
  pub other : label_at (codes "app") (read (codes "{\"metadata\":{\"labels\":{\"env\":\"prod\"}}}")) ≡ None
  pub no_metadata : label_at (codes "env") (read (codes "{\"labels\":{\"env\":\"prod\"}}")) ≡ None
  pub no_map_of_texts : label_at (codes "env") (read (codes "{\"metadata\":{\"labels\":{\"env\":\"prod\",\"n\":1}}}")) ≡ None

-- ---- match resources

abbrev pub constraints : List ℕ → Option MatchResources
constraints text = match_constraints_of (present (read text))

abbrev pub with_rule : Rule → Option MatchResources
with_rule r = Some (record match_all { resource_rules = r ∷ [] })

abbrev pub pod_rule : Rule
pod_rule = record {
  scope = Namespaced;
  operations = codes "CREATE" ∷ [];
  api_groups = [] ∷ [];
  api_versions = codes "v1" ∷ [];
  resources = codes "pods" ∷ [];
  resource_names = codes "web" ∷ [];
}

abbrev pub empty_rule : Rule
empty_rule = record { scope = All; operations = []; api_groups = []; api_versions = []; resources = []; resource_names = [] }

pub record MatchDocumentRowsHold : Type 0 where
  pub rule :
      constraints (codes "{\"resourceRules\":[{\"apiGroups\":[\"\"],\"apiVersions\":[\"v1\"],\"operations\":[\"CREATE\"],\"resourceNames\":[\"web\"],\"resources\":[\"pods\"],\"scope\":\"Namespaced\"}]}")
      ≡ with_rule pod_rule
  pub defaults : constraints (codes "{\"resourceRules\":[{}]}") ≡ with_rule empty_rule
  pub scope_written : constraints (codes "{\"matchPolicy\":\"Equivalent\",\"resourceRules\":[{\"scope\":\"*\"}]}") ≡ with_rule empty_rule
  pub exact : constraints (codes "{\"matchPolicy\":\"Exact\",\"namespaceSelector\":{},\"objectSelector\":null,\"resourceRules\":[{}]}")
      ≡ Some (record match_all { match_policy = Exact; resource_rules = empty_rule ∷ [] })
  pub excludes : match_resources_of (read (codes "{\"excludeResourceRules\":[{}]}"))
      ≡ Some (record match_all { exclude_resource_rules = empty_rule ∷ [] })
  pub policy_without_constraints : match_constraints_of None ≡ None
  pub policy_without_rules : constraints (codes "{\"excludeResourceRules\":[{}]}") ≡ None
  pub policy_with_no_rule : constraints (codes "{\"resourceRules\":[]}") ≡ None
  pub binding_without_resources : match_resources_of None ≡ Some match_all
  pub binding_without_rules : match_resources_of (read (codes "{}")) ≡ Some match_all
  pub other_match_policy : constraints (codes "{\"matchPolicy\":\"exact\",\"resourceRules\":[{}]}") ≡ None
  pub other_scope : constraints (codes "{\"resourceRules\":[{\"scope\":\"Node\"}]}") ≡ None
  pub unknown_key : constraints (codes "{\"resourceRules\":[{}],\"namespaces\":[]}") ≡ None
  pub unknown_key_of_a_rule : constraints (codes "{\"resourceRules\":[{\"names\":[]}]}") ≡ None
  pub number_as_resource : constraints (codes "{\"resourceRules\":[{\"resources\":[1]}]}") ≡ None
  pub bad_selector : constraints (codes "{\"namespaceSelector\":[],\"resourceRules\":[{}]}") ≡ None

-- ---- requests

abbrev pub request : List ℕ → Option Request
request text = option_and_then request_in (read text)

-- an update of the scale of a deployment
abbrev pub update : Option Request
update = request (codes "{\"kind\":{\"group\":\"autoscaling\",\"version\":\"v1\",\"kind\":\"Scale\"},\"resource\":{\"group\":\"apps\",\"version\":\"v1\",\"resource\":\"deployments\"},\"subResource\":\"scale\",\"requestSubResource\":\"scale\",\"operation\":\"UPDATE\",\"name\":\"web\",\"namespace\":\"prod\",\"object\":{\"metadata\":{\"labels\":{\"env\":\"prod\"}}},\"oldObject\":null}")

-- the label `env` of the objects of a request
abbrev pub env_of : Option Labels → Option (List ℕ)
env_of (Some labels) = labels (codes "env")
env_of None = None

pub record UpdateRowHolds : Type 0 where
  pub kind : option_map (λ r. r.kind) update ≡ Some (record { group = codes "autoscaling"; version = codes "v1"; kind = codes "Scale" })
  pub resource : option_map (λ r. r.attributes.resource) update
      ≡ Some (record { group = codes "apps"; version = codes "v1"; resource = codes "deployments" })
  pub subresource : option_map (λ r. r.attributes.subresource) update ≡ Some (codes "scale")
  pub name : option_map (λ r. r.attributes.name) update ≡ Some (codes "web")
  pub namespace : option_map (λ r. r.attributes.namespace) update ≡ Some (codes "prod")
  pub operation : option_map (λ r. r.attributes.operation) update ≡ Some Update
  pub labels : option_and_then (λ r. env_of r.attributes.object) update ≡ Some (codes "prod")
  pub no_old_object : option_map (λ r. r.old_object) update ≡ Some None

-- whether a document is a request
abbrev pub is_request : List ℕ → Bool
is_request text = is_some (request text)

pub record RequestRowsHold : Type 0 where
  pub delete :
      is_request (codes "{\"kind\":{\"version\":\"v1\",\"kind\":\"Pod\"},\"resource\":{\"version\":\"v1\",\"resource\":\"pods\"},\"operation\":\"DELETE\"}") ≡ true
  pub same_kind :
      is_request (codes "{\"kind\":{\"version\":\"v1\",\"kind\":\"Pod\"},\"requestKind\":{\"group\":\"\",\"version\":\"v1\",\"kind\":\"Pod\"},\"resource\":{\"version\":\"v1\",\"resource\":\"pods\"},\"operation\":\"DELETE\"}") ≡ true
  pub converted_kind :
      is_request (codes "{\"kind\":{\"version\":\"v1\",\"kind\":\"Pod\"},\"requestKind\":{\"version\":\"v2\",\"kind\":\"Pod\"},\"resource\":{\"version\":\"v1\",\"resource\":\"pods\"},\"operation\":\"DELETE\"}") ≡ false
  pub converted_resource :
      is_request (codes "{\"kind\":{\"version\":\"v1\",\"kind\":\"Pod\"},\"resource\":{\"version\":\"v1\",\"resource\":\"pods\"},\"requestResource\":{\"group\":\"a\",\"version\":\"v1\",\"resource\":\"pods\"},\"operation\":\"DELETE\"}") ≡ false
  pub other_subresource :
      is_request (codes "{\"kind\":{\"version\":\"v1\",\"kind\":\"Pod\"},\"resource\":{\"version\":\"v1\",\"resource\":\"pods\"},\"requestSubResource\":\"exec\",\"operation\":\"DELETE\"}") ≡ false
  pub no_version :
      is_request (codes "{\"kind\":{\"kind\":\"Pod\"},\"resource\":{\"version\":\"v1\",\"resource\":\"pods\"},\"operation\":\"DELETE\"}") ≡ false
  pub no_resource : is_request (codes "{\"kind\":{\"version\":\"v1\",\"kind\":\"Pod\"},\"operation\":\"DELETE\"}") ≡ false
  pub other_operation :
      is_request (codes "{\"kind\":{\"version\":\"v1\",\"kind\":\"Pod\"},\"resource\":{\"version\":\"v1\",\"resource\":\"pods\"},\"operation\":\"GET\"}") ≡ false
  pub create_without_object :
      is_request (codes "{\"kind\":{\"version\":\"v1\",\"kind\":\"Pod\"},\"resource\":{\"version\":\"v1\",\"resource\":\"pods\"},\"operation\":\"CREATE\",\"object\":null}") ≡ false
  pub connect_without_object :
      is_request (codes "{\"kind\":{\"version\":\"v1\",\"kind\":\"Pod\"},\"resource\":{\"version\":\"v1\",\"resource\":\"pods\"},\"operation\":\"CONNECT\"}") ≡ true
  pub number_as_name :
      is_request (codes "{\"kind\":{\"version\":\"v1\",\"kind\":\"Pod\"},\"resource\":{\"version\":\"v1\",\"resource\":\"pods\"},\"operation\":\"DELETE\",\"name\":1}") ≡ false
  pub text_as_old_object :
      is_request (codes "{\"kind\":{\"version\":\"v1\",\"kind\":\"Pod\"},\"resource\":{\"version\":\"v1\",\"resource\":\"pods\"},\"operation\":\"DELETE\",\"oldObject\":\"x\"}") ≡ false

-- ---- edge cases

abbrev pub label : List ℕ → List ℕ → Label
label key value = record { key = key; value = value }

abbrev pub asks : List ℕ → Operator → List (List ℕ) → Requirement
asks key operator values = record { key = key; operator = operator; values = values }

abbrev pub selector_with : List Label → List Requirement → Option LabelSelector
selector_with labels requirements = Some (record { match_labels = labels; match_expressions = requirements })

-- lists of two, all operators, and parts of the wrong form
pub record SelectorPartRowsHold : Type 0 where
  pub two_labels : selector (codes "{\"matchLabels\":{\"app\":\"web\",\"env\":\"prod\"}}")
      ≡ selector_with (label (codes "app") (codes "web") ∷ label (codes "env") (codes "prod") ∷ []) []
  pub empty_value : selector (codes "{\"matchLabels\":{\"env\":\"\"}}") ≡ selector_with (label (codes "env") [] ∷ []) []
  pub two_expressions :
      selector (codes "{\"matchExpressions\":[{\"key\":\"env\",\"operator\":\"NotIn\",\"values\":[\"dev\",\"prod\"]},{\"key\":\"tier\",\"operator\":\"DoesNotExist\"}]}")
      ≡ selector_with [] (asks (codes "env") NotIn (codes "dev" ∷ codes "prod" ∷ []) ∷ asks (codes "tier") DoesNotExist [] ∷ [])
  pub both :
      selector (codes "{\"matchExpressions\":[{\"key\":\"tier\",\"operator\":\"Exists\",\"values\":[]}],\"matchLabels\":{\"env\":\"prod\"}}")
      ≡ selector_with (label (codes "env") (codes "prod") ∷ []) (asks (codes "tier") Exists [] ∷ [])
  pub nothing_asked : selector (codes "{}") ≡ selector_with [] []
  pub unknown_operator : selector (codes "{\"matchExpressions\":[{\"key\":\"env\",\"operator\":\"Gt\",\"values\":[\"1\"]}]}") ≡ None
  pub bad_key : selector (codes "{\"matchLabels\":{\"a/b/c\":\"x\"}}") ≡ None
  pub unknown_key_of_a_requirement :
      selector (codes "{\"matchExpressions\":[{\"key\":\"env\",\"operator\":\"Exists\",\"value\":[]}]}") ≡ None
  pub no_key : selector (codes "{\"matchExpressions\":[{\"operator\":\"Exists\"}]}") ≡ None
  pub no_operator : selector (codes "{\"matchExpressions\":[{\"key\":\"env\"}]}") ≡ None
  pub list_as_labels : selector (codes "{\"matchLabels\":[]}") ≡ None
  pub object_as_expressions : selector (codes "{\"matchExpressions\":{}}") ≡ None
  pub text_as_values : selector (codes "{\"matchExpressions\":[{\"key\":\"env\",\"operator\":\"In\",\"values\":\"prod\"}]}") ≡ None
  pub second_label : selector (codes "{\"matchLabels\":{\"app\":\"web\",\"env\":1}}") ≡ None
  pub second_expression :
      selector (codes "{\"matchExpressions\":[{\"key\":\"env\",\"operator\":\"Exists\"},{\"key\":\"env\",\"operator\":\"In\"}]}") ≡ None
  pub unknown_key_beside_a_known_one : selector (codes "{\"matchLabels\":{},\"names\":[]}") ≡ None

-- the last of two labels, the empty value, and values that are not labels
pub record LabelPartRowsHold : Type 0 where
  pub second : label_at (codes "env") (read (codes "{\"metadata\":{\"labels\":{\"app\":\"web\",\"env\":\"prod\"}}}")) ≡ Some (codes "prod")
  pub empty_value : label_at (codes "env") (read (codes "{\"metadata\":{\"labels\":{\"env\":\"\"}}}")) ≡ Some []
  pub no_labels : label_at (codes "env") (read (codes "{\"metadata\":{\"annotations\":{\"env\":\"prod\"}}}")) ≡ None
  pub null_labels : label_at (codes "env") (read (codes "{\"metadata\":{\"labels\":null}}")) ≡ None
  pub null_metadata : label_at (codes "env") (read (codes "{\"metadata\":null}")) ≡ None
  pub list_as_labels : label_at (codes "env") (read (codes "{\"metadata\":{\"labels\":[\"env\"]}}")) ≡ None

-- the defaults of all other fields
abbrev pub defaults_with : List Rule → Option MatchResources
defaults_with rules = Some (record {
  match_policy = Equivalent;
  namespace_selector = record { match_labels = []; match_expressions = [] };
  object_selector = record { match_labels = []; match_expressions = [] };
  resource_rules = rules;
  exclude_resource_rules = [];
})

-- each part, each default written explicitly, and parts of the wrong form
pub record MatchPartRowsHold : Type 0 where
  pub all_parts :
      constraints (codes "{\"excludeResourceRules\":[{\"scope\":\"Cluster\"}],\"matchPolicy\":\"Exact\",\"namespaceSelector\":{\"matchLabels\":{\"env\":\"prod\"}},\"objectSelector\":{\"matchLabels\":{\"app\":\"web\"}},\"resourceRules\":[{},{\"resources\":[\"nodes\",\"pods\"]}]}")
      ≡ Some (record {
        match_policy = Exact;
        namespace_selector = record { match_labels = label (codes "env") (codes "prod") ∷ []; match_expressions = [] };
        object_selector = record { match_labels = label (codes "app") (codes "web") ∷ []; match_expressions = [] };
        resource_rules = empty_rule ∷ record empty_rule { resources = codes "nodes" ∷ codes "pods" ∷ [] } ∷ [];
        exclude_resource_rules = record empty_rule { scope = Cluster } ∷ [];
      })
  pub all_defaults : constraints (codes "{\"resourceRules\":[{}]}") ≡ defaults_with (empty_rule ∷ [])
  pub nulls :
      constraints (codes "{\"excludeResourceRules\":null,\"matchPolicy\":null,\"namespaceSelector\":null,\"resourceRules\":[{\"operations\":null,\"scope\":null}]}") ≡ defaults_with (empty_rule ∷ [])
  pub binding : match_resources_of None ≡ defaults_with []
  pub null_constraints : constraints (codes "null") ≡ None
  pub null_rules : constraints (codes "{\"resourceRules\":null}") ≡ None
  pub list_as_constraints : constraints (codes "[]") ≡ None
  pub object_as_rules : constraints (codes "{\"resourceRules\":{}}") ≡ None
  pub text_as_rule : constraints (codes "{\"resourceRules\":[\"pods\"]}") ≡ None
  pub text_as_resources : constraints (codes "{\"resourceRules\":[{\"resources\":\"pods\"}]}") ≡ None
  pub second_operation : constraints (codes "{\"resourceRules\":[{\"operations\":[\"CREATE\",1]}]}") ≡ None
  pub second_rule : constraints (codes "{\"resourceRules\":[{},{\"scope\":\"Node\"}]}") ≡ None
  pub lower_case_scope : constraints (codes "{\"resourceRules\":[{\"scope\":\"cluster\"}]}") ≡ None
  pub number_as_scope : constraints (codes "{\"resourceRules\":[{\"scope\":1}]}") ≡ None
  pub number_as_match_policy : constraints (codes "{\"matchPolicy\":1,\"resourceRules\":[{}]}") ≡ None
  pub exclude : constraints (codes "{\"excludeResourceRules\":[{\"scope\":\"Node\"}],\"resourceRules\":[{}]}") ≡ None
  pub object_selector : constraints (codes "{\"objectSelector\":{\"labels\":{}},\"resourceRules\":[{}]}") ≡ None
  pub unknown_key_beside_a_known_one : constraints (codes "{\"resourceRules\":[{}],\"rules\":[]}") ≡ None
  pub unknown_key_of_a_binding : match_resources_of (read (codes "{\"rules\":[]}")) ≡ None

-- a request on pods with these fields besides its `kind` and `resource`
abbrev pub pod_request : List ℕ → Option Request
pod_request fields =
    request (codes "{\"kind\":{\"version\":\"v1\",\"kind\":\"Pod\"},\"resource\":{\"version\":\"v1\",\"resource\":\"pods\"}," ++ fields ++ codes "}")

-- whether the document is a request
abbrev pub is_pod_request : List ℕ → Bool
is_pod_request fields = is_some (pod_request fields)

-- required parts, and parts that must be equal
pub record RequestPartRowsHold : Type 0 where
  pub same_resource :
      is_pod_request (codes "\"operation\":\"DELETE\",\"requestResource\":{\"version\":\"v1\",\"resource\":\"pods\"}") ≡ true
  pub null_request_kind :
      is_pod_request (codes "\"operation\":\"DELETE\",\"requestKind\":null,\"requestResource\":null,\"requestSubResource\":null") ≡ true
  pub empty_request_subresource : is_pod_request (codes "\"operation\":\"DELETE\",\"requestSubResource\":\"\"") ≡ true
  pub group_of_another_kind :
      is_pod_request (codes "\"operation\":\"DELETE\",\"requestKind\":{\"group\":\"a\",\"version\":\"v1\",\"kind\":\"Pod\"}") ≡ false
  pub other_kind : is_pod_request (codes "\"operation\":\"DELETE\",\"requestKind\":{\"version\":\"v1\",\"kind\":\"Node\"}") ≡ false
  pub part_of_a_kind : is_pod_request (codes "\"operation\":\"DELETE\",\"requestKind\":{\"version\":\"v1\"}") ≡ false
  pub other_version :
      is_pod_request (codes "\"operation\":\"DELETE\",\"requestResource\":{\"version\":\"v2\",\"resource\":\"pods\"}") ≡ false
  pub other_resource :
      is_pod_request (codes "\"operation\":\"DELETE\",\"requestResource\":{\"version\":\"v1\",\"resource\":\"nodes\"}") ≡ false
  pub part_of_a_resource : is_pod_request (codes "\"operation\":\"DELETE\",\"requestResource\":{\"version\":\"v1\"}") ≡ false
  pub number_as_request_subresource : is_pod_request (codes "\"operation\":\"DELETE\",\"requestSubResource\":1") ≡ false
  pub no_kind : is_request (codes "{\"resource\":{\"version\":\"v1\",\"resource\":\"pods\"},\"operation\":\"DELETE\"}") ≡ false
  pub kind_without_its_name :
      is_request (codes "{\"kind\":{\"version\":\"v1\"},\"resource\":{\"version\":\"v1\",\"resource\":\"pods\"},\"operation\":\"DELETE\"}") ≡ false
  pub number_as_group :
      is_request (codes "{\"kind\":{\"group\":1,\"version\":\"v1\",\"kind\":\"Pod\"},\"resource\":{\"version\":\"v1\",\"resource\":\"pods\"},\"operation\":\"DELETE\"}") ≡ false
  pub resource_without_version :
      is_request (codes "{\"kind\":{\"version\":\"v1\",\"kind\":\"Pod\"},\"resource\":{\"resource\":\"pods\"},\"operation\":\"DELETE\"}") ≡ false
  pub resource_without_its_name :
      is_request (codes "{\"kind\":{\"version\":\"v1\",\"kind\":\"Pod\"},\"resource\":{\"version\":\"v1\"},\"operation\":\"DELETE\"}") ≡ false
  pub number_as_subresource : is_pod_request (codes "\"operation\":\"DELETE\",\"subResource\":1") ≡ false
  pub number_as_namespace : is_pod_request (codes "\"operation\":\"DELETE\",\"namespace\":1") ≡ false
  pub no_operation : is_pod_request (codes "\"name\":\"web\"") ≡ false
  pub lower_case_operation : is_pod_request (codes "\"operation\":\"delete\"") ≡ false
  pub number_as_operation : is_pod_request (codes "\"operation\":1") ≡ false
  pub create : is_pod_request (codes "\"operation\":\"CREATE\",\"object\":{}") ≡ true
  pub create_without_a_field : is_pod_request (codes "\"operation\":\"CREATE\"") ≡ false
  pub update_without_object : is_pod_request (codes "\"operation\":\"UPDATE\",\"object\":null,\"oldObject\":{}") ≡ false
  pub list_as_object : is_pod_request (codes "\"operation\":\"DELETE\",\"object\":[]") ≡ false

-- what is read: defaults, operations, objects and their labels
pub record RequestReadRowsHold : Type 0 where
  pub kind : option_map (λ r. r.kind) (pod_request (codes "\"operation\":\"DELETE\""))
      ≡ Some (record { group = []; version = codes "v1"; kind = codes "Pod" })
  pub resource : option_map (λ r. r.attributes.resource) (pod_request (codes "\"operation\":\"DELETE\""))
      ≡ Some (record { group = []; version = codes "v1"; resource = codes "pods" })
  pub no_subresource : option_map (λ r. r.attributes.subresource) (pod_request (codes "\"operation\":\"DELETE\"")) ≡ Some []
  pub no_name : option_map (λ r. r.attributes.name) (pod_request (codes "\"operation\":\"DELETE\"")) ≡ Some []
  pub no_namespace : option_map (λ r. r.attributes.namespace) (pod_request (codes "\"operation\":\"DELETE\"")) ≡ Some []
  pub create : option_map (λ r. r.attributes.operation) (pod_request (codes "\"operation\":\"CREATE\",\"object\":{}")) ≡ Some Create
  pub delete : option_map (λ r. r.attributes.operation) (pod_request (codes "\"operation\":\"DELETE\"")) ≡ Some Delete
  pub connect : option_map (λ r. r.attributes.operation) (pod_request (codes "\"operation\":\"CONNECT\"")) ≡ Some Connect
  pub last_of_a_key :
      option_map (λ r. r.attributes.operation) (pod_request (codes "\"operation\":\"DELETE\",\"operation\":\"CONNECT\"")) ≡ Some Connect
  pub object : option_map (λ r. r.object) (pod_request (codes "\"operation\":\"CREATE\",\"object\":{}"))
      ≡ Some (Some (json.object json.no_members))
  pub no_object_of_delete : option_map (λ r. r.object) (pod_request (codes "\"operation\":\"DELETE\",\"oldObject\":{}")) ≡ Some None
  pub old_object : option_map (λ r. r.old_object) (pod_request (codes "\"operation\":\"DELETE\",\"oldObject\":{}"))
      ≡ Some (Some (json.object json.no_members))
  pub object_without_metadata :
      option_map (λ r. is_some r.attributes.object) (pod_request
      (codes "\"operation\":\"CONNECT\",\"object\":{\"labels\":{}}")) ≡ Some false
  pub null_metadata :
      option_map (λ r. is_some r.attributes.object) (pod_request
      (codes "\"operation\":\"CONNECT\",\"object\":{\"metadata\":null}")) ≡ Some false
  pub metadata_without_labels :
      option_map (λ r. is_some r.attributes.object) (pod_request
      (codes "\"operation\":\"CREATE\",\"object\":{\"metadata\":{}}")) ≡ Some true
  pub no_label :
      option_map (λ r. env_of r.attributes.object) (pod_request (codes "\"operation\":\"CREATE\",\"object\":{\"metadata\":{}}")) ≡ Some None
  pub labels_of_the_new_object :
      option_map (λ r. env_of r.attributes.object) (pod_request
      (codes "\"operation\":\"UPDATE\",\"object\":{\"metadata\":{\"labels\":{\"env\":\"new\"}}},\"oldObject\":{\"metadata\":{\"labels\":{\"env\":\"old\"}}}")) ≡ Some (Some (codes "new"))
  pub labels_of_the_old_object :
      option_map (λ r. env_of r.attributes.old_object) (pod_request
      (codes "\"operation\":\"UPDATE\",\"object\":{\"metadata\":{\"labels\":{\"env\":\"new\"}}},\"oldObject\":{\"metadata\":{\"labels\":{\"env\":\"old\"}}}")) ≡ Some (Some (codes "old"))
  pub old_object_without_metadata :
      option_map (λ r. is_some r.attributes.old_object) (pod_request (codes "\"operation\":\"DELETE\",\"oldObject\":{}")) ≡ Some false

abbrev pub kind : List ℕ → List ℕ → List ℕ → GroupVersionKind
kind group version name = record { group = group; version = version; kind = name }

-- the only kind that is the Namespace of the core group
pub record CoreNamespaceRowsHold : Type 0 where
  pub namespace : is_core_namespace (kind [] (codes "v1") (codes "Namespace")) ≡ true
  pub other_group : is_core_namespace (kind (codes "corp.example.com") (codes "v1") (codes "Namespace")) ≡ false
  pub other_version : is_core_namespace (kind [] (codes "v1beta1") (codes "Namespace")) ≡ false
  pub other_kind : is_core_namespace (kind [] (codes "v1") (codes "Pod")) ≡ false
  pub plural : is_core_namespace (kind [] (codes "v1") (codes "namespaces")) ≡ false
