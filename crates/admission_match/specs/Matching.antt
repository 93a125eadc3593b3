-- Which requests match resources match (Kubernetes, MatchResources of admissionregistration.k8s.io/v1). Each
-- definition tests the rows of its table in order.
use Rattle.std.specs.Prelude.{ℕ, Bool, true, false, not, ◌&&◌, ◌||◌, ◌==◌, List, [], ◌∷◌, map, Option, Some, None, option_map, length, if◌then◌else◌}
use Rattle.label_selectors.specs.Selectors.{Labels, LabelSelector, is_empty, labels_of, selector_view, selects}
use Rattle.admission_match.specs.Requests.{Attributes, is_namespaces}
use Rattle.admission_match.specs.Rules.{Rule, rule_view, rules_answer}
use Rattle.admission_match.specs.declared.answer.Answer.{Answer}
use Rattle.admission_match.specs.declared.answer.Answer.TheVariants.{Yes, No, Unknown, Trouble}
use Rattle.admission_match.specs.declared.match_policy.MatchPolicy.{MatchPolicy}
use Rattle.admission_match.specs.declared.match_resources.MatchResources.{MatchResources as CodeMatchResources}
use Rattle.admission_match.specs.declared.namespace_answer.NamespaceAnswer.{NamespaceAnswer}
use Rattle.admission_match.specs.declared.namespace_answer.NamespaceAnswer.TheVariants.{Passes, KeptOut, NoLabels}
use Rattle.admission_match.specs.declared.operation.Operation.{Operation}
use Rattle.admission_match.specs.declared.operation.Operation.TheVariants.{Create, Update, Delete, Connect}
use Rattle.admission_match.specs.declared.rules_answer.RulesAnswer.{RulesAnswer}
use Rattle.admission_match.specs.declared.rules_answer.RulesAnswer.TheVariants.{SomeFits, NoneFits, NotKnown}
use Rattle.admission_match.specs.declared.trouble.Trouble.TheVariants.{NoName, NotFound}

-- match resources, with the API server's defaults for missing fields
pub record MatchResources : Type 0 where
  pub match_policy : MatchPolicy
  pub namespace_selector : LabelSelector
  pub object_selector : LabelSelector
  pub resource_rules : List Rule
  pub exclude_resource_rules : List Rule

-- the labels of each existing namespace
abbrev pub Namespaces : Type 0
Namespaces = List ℕ → Option Labels

-- CREATE and UPDATE
abbrev pub writes : Operation → Bool
writes Create = true
writes Update = true
writes Delete = false
writes Connect = false

-- a cluster-scoped request that is not on namespaces
abbrev pub is_outside_namespaces : Attributes → Bool
is_outside_namespaces q = length q.namespace == 0 && not (is_namespaces q.resource)

-- a namespace is created or updated, and not a subresource of one
abbrev pub writes_namespace : Attributes → Bool
writes_namespace q = is_namespaces q.resource && length q.subresource == 0 && writes q.operation

-- the labels of an object, none if it is missing
abbrev pub labels_in : Option Labels → Labels
labels_in (Some labels) = labels
labels_in None = labels_of []

abbrev pub passes_if : Bool → NamespaceAnswer
passes_if true = Passes
passes_if false = KeptOut

-- the answer for a namespace that is or is not selected, or does not exist
abbrev pub if_selected : Option Bool → NamespaceAnswer
if_selected (Some selected) = passes_if selected
if_selected None = NoLabels NotFound

-- The answer of the namespace selector: for a cluster-scoped request on another resource, an empty selector, a
-- namespace that is written (only its new object counts), a collection of namespaces, and all other requests.
abbrev pub namespace_answer : LabelSelector → Namespaces → Attributes → NamespaceAnswer
namespace_answer s namespaces q =
    if is_outside_namespaces q then Passes
    else (if is_empty s then Passes
    else (if writes_namespace q then passes_if (selects s (labels_in q.object))
    else (if length q.namespace == 0 then NoLabels NoName
    else if_selected (option_map (selects s) (namespaces q.namespace)))))

-- the object has metadata and its labels are selected
abbrev pub selects_object : LabelSelector → Option Labels → Bool
selects_object s (Some labels) = selects s labels
selects_object s None = false

-- the object selector lets the request pass: it is empty, or it selects one of the two objects
abbrev pub object_passes : LabelSelector → Attributes → Bool
object_passes s q = is_empty s || selects_object s q.object || selects_object s q.old_object

-- the last rows: the trouble of the namespace, otherwise yes
abbrev pub after_rules : NamespaceAnswer → Answer
after_rules Passes = Yes
after_rules KeptOut = No
after_rules (NoLabels t) = Trouble t

-- the answer given that of the rules; an empty list of rules matches every request
abbrev pub at_rules : NamespaceAnswer → List Rule → RulesAnswer → Answer
at_rules n [] a = after_rules n
at_rules n (r ∷ rs) SomeFits = after_rules n
at_rules n (r ∷ rs) NoneFits = No
at_rules n (r ∷ rs) NotKnown = Unknown

-- the answer given that of the excluding rules
abbrev pub at_excludes : RulesAnswer → Answer → Answer
at_excludes SomeFits rest = No
at_excludes NotKnown rest = Unknown
at_excludes NoneFits rest = rest

-- the answer given that of the namespace, which is tested first and can only exclude
abbrev pub at_namespace : NamespaceAnswer → Answer → Answer
at_namespace KeptOut rest = No
at_namespace Passes rest = rest
at_namespace (NoLabels t) rest = rest

-- the answer of the objects, the excluding rules and the rules; `rules` gives the answer of a list of rules
abbrev pub beside_namespace : (List Rule → RulesAnswer) → MatchResources → Attributes → NamespaceAnswer → Answer
beside_namespace rules m q n =
    if object_passes m.object_selector q
    then at_excludes (rules m.exclude_resource_rules) (at_rules n m.resource_rules (rules m.resource_rules))
    else No

-- the answer of match resources for a request; `rules` gives the answer of a list of rules
abbrev pub answer_by : (List Rule → RulesAnswer) → MatchResources → Namespaces → Attributes → Answer
answer_by rules m namespaces q =
    let n = namespace_answer m.namespace_selector namespaces q in at_namespace n (beside_namespace rules m q n)

-- the answer of match resources for a request
unfoldable pub match_answer : MatchResources → Namespaces → Attributes → Answer
match_answer m namespaces q = answer_by (λ rs. rules_answer m.match_policy rs q) m namespaces q

-- match resources of the code
abbrev pub match_view : CodeMatchResources → MatchResources
match_view m = record {
  match_policy = m.match_policy;
  namespace_selector = selector_view m.namespace_selector;
  object_selector = selector_view m.object_selector;
  resource_rules = map rule_view m.resource_rules.items;
  exclude_resource_rules = map rule_view m.exclude_resource_rules.items;
}
