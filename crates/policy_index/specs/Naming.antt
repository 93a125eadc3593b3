-- Which match resources may match requests on a resource. A resource is named by its plural, in any group and version.
use Rattle.std.specs.Prelude.{ℕ, Bool, ◌||◌, ◌==◌, List, map, length}
use Rattle.std.specs.List.{before_first, list_any}
use Rattle.admission_match.specs.Matching.{MatchResources}
use Rattle.admission_match.specs.Rules.{Rule, is_or_any}

-- what stands before the first slash of a pattern of a rule's `resources`, the whole pattern if it has none
abbrev pub named_resource : List ℕ → List ℕ
named_resource pattern = before_first (λ c. c == 47) pattern

-- the pattern names this resource, or `*`
abbrev pub names : List ℕ → List ℕ → Bool
names pattern resource = is_or_any (named_resource pattern) resource

-- a pattern of these rules names this resource, or `*`
abbrev pub one_names : List Rule → List ℕ → Bool
one_names rules resource = list_any (λ r. list_any (λ p. names p resource) r.resources) rules

-- Match resources may match a request on this resource: they have no rules, or one of their rules, or of those that
-- exclude, names it.
unfoldable pub may_match : MatchResources → List ℕ → Bool
may_match m resource =
    length m.resource_rules == 0 || one_names m.resource_rules resource || one_names m.exclude_resource_rules resource

-- for each of these match resources, in order, whether it may match a request on this resource
abbrev pub candidates : List MatchResources → List ℕ → List Bool
candidates ms resource = map (λ m. may_match m resource) ms
