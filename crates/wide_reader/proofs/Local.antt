-- The reader looks at no word after the first of those left: with other words there it runs the same way.
use Rattle.wide_reader.proofs.Prelude.{ℕ, List, ◌∷◌, Bool, true, false, refl, WideWord, mark, WidePhrase, at, WideCause, Misfit, Deep, WideReadOutcome, Got, Refused, WideKind, WidePlan, WidePlanRuns, stands, unfit, goes, fails, calls, found, missing, enters, passes, opened, full}
use Rattle.wide_reader.proofs.Alike.{Alike, over, down, same, SameHead, lacks_too}

-- the words left by a refusal, and the same refusal with other words
abbrev pub left_by : WideCause → List WideWord
left_by (Misfit rest) = rest
left_by (Deep rest) = rest

abbrev pub caused : WideCause → List WideWord → WideCause
caused (Misfit rest) vs = Misfit vs
caused (Deep rest) vs = Deep vs

abbrev pub left : WideReadOutcome → List WideWord
left (Got p rest) = rest
left (Refused e) = left_by e

abbrev pub ending : WideReadOutcome → List WideWord → WideReadOutcome
ending (Got p rest) vs = Got p vs
ending (Refused e) vs = Refused (caused e vs)

-- the first of the words left is the same, except after a bracket too many
abbrev pub NearCause : WideCause → List WideWord → List WideWord → Type 0
NearCause (Misfit rest) ws us = SameHead ws us
NearCause (Deep rest) ws us = Unit {0}

abbrev pub Near : WideReadOutcome → List WideWord → List WideWord → Type 0
Near (Got p rest) ws us = SameHead ws us
Near (Refused e) ws us = NearCause e ws us

near : (o : WideReadOutcome) (ws us : List WideWord) → SameHead ws us → Near o ws us
near (Refused (Deep rest)) ws us h = tt
near _ ws us h = h

-- the first word of the plan is the same, unless a bracket precedes it
abbrev Begun : Bool → WideReadOutcome → List WideWord → List WideWord → Type 0
Begun true o ws us = Near o ws us
Begun false o ws us = SameHead ws us

begun : (b : Bool) (o : WideReadOutcome) (p : WidePhrase) (rest ws us : List WideWord) → Begun b (Got p rest) ws us → Begun b o ws us
begun true o p rest ws us h = near o ws us h
begun false o p rest ws us h = h

-- the plan before other words
pub local : {b : Bool} {k : WideKind} {p : WidePlan b k} {room : ℕ} {ws : List WideWord} {o : WideReadOutcome} → WidePlanRuns p room ws o → (vs : List WideWord) → Near o (left o) vs
    → (us : List WideWord) × Alike (left o) vs ws us × Begun b o ws us × WidePlanRuns p room us (ending o vs)
local stands vs n = (vs, same, n, stands)
local unfit vs n = (vs, same, n, unfit)
local (goes r) vs n = let t = local r vs n in (t.0, t.1, t.2, goes t.3)
local (fails r) vs n = let t = local r vs n in (t.0, t.1, t.2, fails t.3)
local (calls {b = b} {ws = ws} {rest = rest} {o = o} x r t) vs n =
    let u = local t vs n in
    let v = local r u.0 u.2 in
    (v.0, over u.1 v.1, begun b o _ rest ws v.0 v.2, calls x v.3 u.3)
local (found {w = w} i r) vs n = let t = local r vs n in (w ∷ t.0, down t.1, refl, found i t.3)
local (missing {l = l} {ws = ws} x r) vs n = let t = local r vs n in (t.0, t.1, t.2, missing (lacks_too l ws t.0 t.2 x) t.3)
local (enters {m = m} r) vs n = let t = local r vs n in (mark m ∷ t.0, down t.1, refl, enters t.3)
local (passes {m = m} {ws = ws} x r) vs n = let t = local r vs n in (t.0, t.1, t.2, passes (lacks_too (at m) ws t.0 t.2 x) t.3)
local (opened {ws = ws} {o = o} r) vs n = let t = local r vs n in (t.0, t.1, near o ws t.0 t.2, opened t.3)
local full vs n = (vs, same, tt, full)
