-- What counts of events after one more.
use Rattle.std.specs.Prelude.{ℕ, true, List, [], ◌∷◌, ◌++◌, fold, Option, Some, None, bytes_eq, if◌then◌else◌}
use Rattle.std.specs.List.{list_any}
use Rattle.cluster_response.specs.Events.{Event, denies, warns, audits, refuses, ends, EventSummary, is_closed}
use Rattle.cluster_response.specs.Firsts.{preferred}

-- the first of its kind, with one more
abbrev pub or_first : {A : Type 0} → Option A → A → Option A
or_first (Some first) later = Some first
or_first None later = Some later

-- the texts with one more, unless it is there
abbrev pub or_there : List (List ℕ) → List ℕ → List (List ℕ)
or_there texts t = if list_any (bytes_eq t) texts then texts else texts ++ t ∷ []

-- what counts after one more event
abbrev pub with_event : EventSummary → Event → EventSummary
with_event s (denies d) = record s { denial = or_first s.denial d }
with_event s (warns t) = record s { warnings = or_there s.warnings t }
with_event s (audits a) = record s { audit = or_first s.audit a }
with_event s (refuses r) = record s { undecided = Some (preferred is_closed s.undecided r) }
with_event s ends = record s { ended = true }

-- after more events
abbrev pub with_events : EventSummary → List Event → EventSummary
with_events s es = fold with_event s es
