-- Laws of events and of the response.
use Rattle.std.specs.Prelude.{◌≡◌, ℕ, Bool, true, false, List, Option, Some, None, bytes_eq, codes, option_and_then}
use Rattle.std.specs.List.{list_any}
use Rattle.serde_json.specs.Data as json
use Rattle.serde_json.specs.Find.{get}
use Rattle.admission_documents.specs.Requests.{Request}
use Rattle.cluster_response.specs.Events.{Event, Undecided, denies, warns, audits, refuses, ends, summary_of}
use Rattle.cluster_response.specs.Response.{answer_tree}

-- ---- what is allowed

-- a denial, or the end because the namespace is not found
abbrev pub is_against : Event → Bool
is_against (denies d) = true
is_against (warns t) = false
is_against (audits a) = false
is_against (refuses r) = false
is_against ends = true

-- a policy does not decide
abbrev pub is_refusal : Event → Bool
is_refusal (denies d) = false
is_refusal (warns t) = false
is_refusal (audits a) = false
is_refusal (refuses r) = true
is_refusal ends = false

-- `allowed` of the response, if the answer has a response
abbrev pub allowed_in : json.Data → Option json.Data
allowed_in d = option_and_then (get (codes "allowed")) (get (codes "response") d)

-- whether the request is allowed, by what is among the events
pub record AllowsByEvents (q : Request) (uid : List ℕ) (es : List Event) : Type 0 where
  pub denied : list_any is_against es ≡ true → allowed_in (answer_tree q uid (summary_of es)) ≡ Some (json.boolean false)
  pub undecided : list_any is_against es ≡ false → list_any is_refusal es ≡ true
      → allowed_in (answer_tree q uid (summary_of es)) ≡ None
  pub allowed : list_any is_against es ≡ false → list_any is_refusal es ≡ false
      → allowed_in (answer_tree q uid (summary_of es)) ≡ Some (json.boolean true)

-- a request is allowed exactly if nothing denies it, the dispatch does not end and each policy decides
abbrev pub AllowedExactly : Type 0
AllowedExactly = (q : Request) (uid : List ℕ) (es : List Event) → AllowsByEvents q uid es

-- ---- refusals

-- a policy that fails closed does not decide
abbrev pub is_closed_refusal : Event → Bool
is_closed_refusal (denies d) = false
is_closed_refusal (warns t) = false
is_closed_refusal (audits a) = false
is_closed_refusal (refuses r) = r.fails_closed
is_closed_refusal ends = false

-- a policy that does not fail closed is told only if each policy that fails closed decides
abbrev pub RefusalsHideNoFail : Type 0
RefusalsHideNoFail = (es : List Event) (r : Undecided) → (summary_of es).undecided ≡ Some r → r.fails_closed ≡ false
    → list_any is_closed_refusal es ≡ false

-- ---- warnings

-- the event warns by this text
abbrev pub warns_by : List ℕ → Event → Bool
warns_by t (denies d) = false
warns_by t (warns u) = bytes_eq t u
warns_by t (audits a) = false
warns_by t (refuses r) = false
warns_by t ends = false

-- the warnings are the texts by which an event warns, in any order of the events
abbrev pub WarningsAreThoseOfEvents : Type 0
WarningsAreThoseOfEvents =
    (t : List ℕ) (es : List Event) → list_any (bytes_eq t) (summary_of es).warnings ≡ list_any (warns_by t) es
