-- How an index is built: from the answers for `*`, and yes for what each of the match resources names.
use Rattle.std.specs.Prelude.{◌≡◌, ℕ, Bool, true, ◌||◌, List, bytes_eq, map, set, string_bytes, if◌then◌else◌}
use Rattle.std.specs.Borrow.{Bor}
use Rattle.std.specs.List.{list_any}
use Rattle.std.specs.declared.alloc.Global.{Global}
use Rattle.std.specs.declared.string.String.{String}
use Rattle.admission_match.specs.Matching.{MatchResources, match_view}
use Rattle.admission_match.specs.declared.match_resources.MatchResources.{MatchResources as CodeMatchResources}
use Rattle.admission_match.specs.declared.rule.Rule.{Rule as CodeRule}
use Rattle.policy_index.specs.Indexes.{answers}
use Rattle.policy_index.specs.Naming.{named_resource}
use Rattle.policy_index.specs.declared.resource_index.ResourceIndex.{ResourceIndex}

-- what is before the first slash of one of these patterns is this text
abbrev pub patterns_have : List (String Global) → List ℕ → Bool
patterns_have patterns text = list_any (λ p. bytes_eq (named_resource (string_bytes p)) text) patterns

-- the same for the patterns of these rules
abbrev pub rules_have : List CodeRule → List ℕ → Bool
rules_have rules text = list_any (λ r. patterns_have r.resources.items text) rules

-- the same for the rules of these match resources, and for those that exclude
abbrev pub has : CodeMatchResources → List ℕ → Bool
has resources text = rules_have resources.resource_rules.items text || rules_have resources.exclude_resource_rules.items text

-- these match resources
abbrev pub views : List (Bor CodeMatchResources) → List MatchResources
views constraints = map (λ m. match_view m.now) constraints

-- these answers, with yes at this place if so
abbrev pub marked : List Bool → ℕ → Bool → List Bool
marked row place is_so = if is_so then set row place true else row

-- the answers before, with yes at this place for each resource that `have` says
abbrev pub Marks : ResourceIndex → ResourceIndex → ℕ → (List ℕ → Bool) → Type 0
Marks before after place have =
    (resource : List ℕ) → answers after resource ≡ marked (answers before resource) place (have resource)
