-- Laws of match resources that may match.
use Rattle.std.specs.Prelude.{◌≡◌, false}
use Rattle.admission_match.specs.Matching.{MatchResources, Namespaces, match_answer}
use Rattle.admission_match.specs.Requests.{Attributes}
use Rattle.admission_match.specs.declared.answer.Answer.TheVariants.{No}
use Rattle.policy_index.specs.Naming.{may_match}

-- what may not match a request on a resource matches none, whatever the rest of the request and the namespaces are
abbrev pub MatchesOnlyIfItMay : Type 0
MatchesOnlyIfItMay =
    (m : MatchResources) (namespaces : Namespaces) (q : Attributes)
    → may_match m q.resource.resource ≡ false → match_answer m namespaces q ≡ No
