-- Laws of matching.
use Rattle.std.specs.Prelude.{◌≡◌, ◌≢◌, ℕ, Bool, true, ◌||◌, List, ◌∷◌, ◌++◌, All, if◌then◌else◌}
use Rattle.std.specs.List.{list_any}
use Rattle.admission_match.specs.Matching.{MatchResources, Namespaces, answer_by, match_answer}
use Rattle.admission_match.specs.Requests.{Attributes, GroupVersionResource, is_exempt}
use Rattle.admission_match.specs.Rules.{Rule, at_version, fits, is_candidate, may_fit}
use Rattle.admission_match.specs.declared.answer.Answer.{Answer}
use Rattle.admission_match.specs.declared.answer.Answer.TheVariants.{Unknown}
use Rattle.admission_match.specs.declared.match_policy.MatchPolicy.{MatchPolicy}
use Rattle.admission_match.specs.declared.match_policy.MatchPolicy.TheVariants.{Exact, Equivalent}
use Rattle.admission_match.specs.declared.rules_answer.RulesAnswer.{RulesAnswer}
use Rattle.admission_match.specs.declared.rules_answer.RulesAnswer.TheVariants.{SomeFits, NoneFits}

-- a resource is exempt in each version or in none
abbrev pub ExemptInEachVersion : Type 0
ExemptInEachVersion = (x : GroupVersionResource) (v : List ℕ) → is_exempt (at_version x v) ≡ is_exempt x

-- a rule that fits a candidate may fit
abbrev pub CandidatesMayFit : Type 0
CandidatesMayFit =
    (r : Rule) (q : Attributes) (c : GroupVersionResource) → is_candidate q.resource c ≡ true → fits r q c ≡ true → may_fit r q ≡ true

-- two adjacent rules may be exchanged
abbrev pub RulesHaveNoOrder : Type 0
RulesHaveNoOrder =
    (m : MatchResources) (namespaces : Namespaces) (q : Attributes) (before : List Rule) (a b : Rule) (after : List Rule)
    → match_answer (record m { resource_rules = before ++ a ∷ b ∷ after }) namespaces q
    ≡ match_answer (record m { resource_rules = before ++ b ∷ a ∷ after }) namespaces q

-- two adjacent excluding rules may be exchanged
abbrev pub ExcludesHaveNoOrder : Type 0
ExcludesHaveNoOrder =
    (m : MatchResources) (namespaces : Namespaces) (q : Attributes) (before : List Rule) (a b : Rule) (after : List Rule)
    → match_answer (record m { exclude_resource_rules = before ++ a ∷ b ∷ after }) namespaces q
    ≡ match_answer (record m { exclude_resource_rules = before ++ b ∷ a ∷ after }) namespaces q

-- a rule fits the request under this resource
abbrev pub some_fits : List Rule → Attributes → GroupVersionResource → Bool
some_fits rs q x = list_any (λ r. fits r q x) rs

-- the answer of the rules on a server that stores the resources `served` in the same place as the request's resource
abbrev pub served_answer : List GroupVersionResource → MatchPolicy → List Rule → Attributes → RulesAnswer
served_answer served Exact rs q = if some_fits rs q q.resource then SomeFits else NoneFits
served_answer served Equivalent rs q =
    if some_fits rs q q.resource || list_any (some_fits rs q) served then SomeFits else NoneFits

-- the answer of match resources on that server
abbrev pub server_answer : List GroupVersionResource → MatchResources → Namespaces → Attributes → Answer
server_answer served m namespaces q = answer_by (λ rs. served_answer served m.match_policy rs q) m namespaces q

-- an answer other than unknown holds for every server, for any resources that it stores in the same place as the
-- request's
abbrev pub EveryServerAgrees : Type 0
EveryServerAgrees =
    (served : List GroupVersionResource) (m : MatchResources) (namespaces : Namespaces) (q : Attributes)
    → All (λ c. is_candidate q.resource c ≡ true) served → match_answer m namespaces q ≢ Unknown
    → server_answer served m namespaces q ≡ match_answer m namespaces q
