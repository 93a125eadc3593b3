-- Match resources that may, or may not, match requests on a resource, worked by hand.
use Rattle.std.specs.Prelude.{◌≡◌, ℕ, true, false, List, [], ◌∷◌, codes}
use Rattle.admission_match.specs.Matching.{MatchResources}
use Rattle.admission_match.specs.Rows.{everything, matching, pods, rule_for}
use Rattle.admission_match.specs.declared.scope.Scope.TheVariants.{All}
use Rattle.policy_index.specs.Naming.{candidates, may_match}

abbrev pub nodes : List ℕ
nodes = codes "nodes"

-- one rule with these patterns
abbrev pub for_patterns : List (List ℕ) → MatchResources
for_patterns patterns = matching everything everything (rule_for All patterns ∷ []) []

-- one rule with the first patterns, and one that excludes with the second
abbrev pub without : List (List ℕ) → List (List ℕ) → MatchResources
without patterns excludes = matching everything everything (rule_for All patterns ∷ []) (rule_for All excludes ∷ [])

pub record MayMatchRowsHold : Type 0 where
  pub itself : may_match (for_patterns (pods ∷ [])) pods ≡ true
  pub other : may_match (for_patterns (pods ∷ [])) nodes ≡ false
  pub longer : may_match (for_patterns (pods ∷ [])) (codes "podsx") ≡ false
  pub shorter : may_match (for_patterns (pods ∷ [])) (codes "pod") ≡ false
  pub subresource : may_match (for_patterns (codes "pods/exec" ∷ [])) pods ≡ true
  pub subresource_of_other : may_match (for_patterns (codes "pods/exec" ∷ [])) nodes ≡ false
  pub all_subresources : may_match (for_patterns (codes "pods/*" ∷ [])) pods ≡ true
  pub all_subresources_of_other : may_match (for_patterns (codes "pods/*" ∷ [])) nodes ≡ false
  pub all_resources : may_match (for_patterns (codes "*" ∷ [])) pods ≡ true
  pub scale_of_all : may_match (for_patterns (codes "*/scale" ∷ [])) nodes ≡ true
  pub first_slash : may_match (for_patterns (codes "pods/a/b" ∷ [])) pods ≡ true
  pub first_slash_of_other : may_match (for_patterns (codes "pods/nodes/b" ∷ [])) nodes ≡ false
  pub slash_alone : may_match (for_patterns (codes "/" ∷ [])) pods ≡ false
  pub slash_alone_empty : may_match (for_patterns (codes "/" ∷ [])) [] ≡ true
  pub star_within : may_match (for_patterns (codes "po*" ∷ [])) pods ≡ false
  pub second_pattern : may_match (for_patterns (nodes ∷ pods ∷ [])) pods ≡ true
  pub no_patterns : may_match (for_patterns []) pods ≡ false
  pub second_rule :
      may_match (matching everything everything (rule_for All (nodes ∷ []) ∷ rule_for All (pods ∷ []) ∷ []) []) pods ≡ true
  pub excluded : may_match (without (nodes ∷ []) (pods ∷ [])) pods ≡ true
  pub excluded_all : may_match (without (nodes ∷ []) (codes "*/*" ∷ [])) pods ≡ true
  pub excluded_other : may_match (without (nodes ∷ []) (nodes ∷ [])) pods ≡ false
  pub no_rules : may_match (matching everything everything [] []) pods ≡ true
  pub no_rules_excluded_other : may_match (matching everything everything [] (rule_for All (nodes ∷ []) ∷ [])) pods ≡ true
  pub in_order :
      candidates (for_patterns (pods ∷ []) ∷ for_patterns (nodes ∷ []) ∷ for_patterns (codes "*" ∷ []) ∷ []) nodes
      ≡ false ∷ true ∷ true ∷ []
  pub of_none : candidates [] pods ≡ []
