-- Runs of plans that may skip a lookahead: a phrase that is read so does not depend on the words after it.
use Rattle.wide_reader.proofs.Prelude.{◌≡◌, ℕ, zero, suc, ◌≤◌, List, ◌∷◌, Bool, true, false, refl, subst, arith, WideWord, mark, Mark, WidePhrase, WideLook, WideFoundBy, WideIs, opens_mark, WideKind, WideOf, phrase, Got, WideReadStep, WidePlan, done, go, call, look, enter, inside, plan, WidePlanRuns}
use Rattle.wide_reader.specs.Reading as runs
use Rattle.wide_reader.proofs.Plans.{one_phrase}
use Rattle.wide_reader.proofs.Alike.{Alike, over, down, same}

pub data May : (b : Bool) (k : WideKind) → WidePlan b k → ℕ → List WideWord → WideOf k → List WideWord → Type 0 where
  stands : {k : WideKind} {x : WideOf k} {room : ℕ} {ws : List WideWord} → May false k (done x) room ws x ws
  goes : {b : Bool} {k : WideKind} {s : WideReadStep b k} {room : ℕ} {ws rest : List WideWord} {x : WideOf k} → May b k (plan s) room ws x rest → May b k (go s) room ws x rest
  calls : {b : Bool} {j k : WideKind} {s : WideReadStep b j} {f : WideOf j → WidePlan false k} {room : ℕ} {ws us rest : List WideWord} {y : WideOf k} (x : WideOf j)
      → May b j (go s) room ws x us → May false k (f x) room us y rest → May b k (call s f) room ws y rest
  found : {k : WideKind} {l : WideLook} {f : WideFoundBy l → WidePlan false k} {p : WidePlan false k} {room : ℕ} {w : WideWord} {ws rest : List WideWord} {x : WideFoundBy l} {y : WideOf k}
      → WideIs l w x → May false k (f x) room ws y rest → May false k (look l f p) room (w ∷ ws) y rest
  skips : {k : WideKind} {l : WideLook} {f : WideFoundBy l → WidePlan false k} {p : WidePlan false k} {room : ℕ} {ws rest : List WideWord} {x : WideOf k}
      → May false k p room ws x rest → May false k (look l f p) room ws x rest
  enters : {k : WideKind} {m : Mark} {e : opens_mark m ≡ true} {p : WidePlan true k} {q : WidePlan false k} {room : ℕ} {ws rest : List WideWord} {x : WideOf k}
      → May true k p room ws x rest → May false k (enter m e p q) room (mark m ∷ ws) x rest
  passes : {k : WideKind} {m : Mark} {e : opens_mark m ≡ true} {p : WidePlan true k} {q : WidePlan false k} {room : ℕ} {ws rest : List WideWord} {x : WideOf k}
      → May false k q room ws x rest → May false k (enter m e p q) room ws x rest
  opened : {k : WideKind} {p : WidePlan false k} {room : ℕ} {ws rest : List WideWord} {x : WideOf k} → May false k p room ws x rest
      → May true k (inside p) (suc room) ws x rest

abbrev pub Loose : {b : Bool} {k : WideKind} → WidePlan b k → ℕ → List WideWord → WideOf k → List WideWord → Type 0
Loose {b} {k} p room ws x rest = May b k p room ws x rest

-- a phrase that the plan reads is one of these too
some_phrase : {b : Bool} {k : WideKind} {p : WidePlan b k} {room : ℕ} {ws rest : List WideWord} {q : WidePhrase} → WidePlanRuns p room ws (Got q rest)
    → (x : WideOf k) × (phrase k x ≡ q) × Loose p room ws x rest
some_phrase runs.stands = (_, refl, stands)
some_phrase (runs.goes r) = let t = some_phrase r in (t.0, t.1, goes t.2)
some_phrase (runs.calls {j = j} {s = s} {room = room} {ws = ws} {rest = us} x r t) =
    let d = some_phrase r in
    let e = some_phrase t in
    (e.0, e.1, calls x (subst (λ (y : WideOf j). Loose (go s) room ws y us) (one_phrase j d.0 x d.1) d.2) e.2)
some_phrase (runs.found i r) = let t = some_phrase r in (t.0, t.1, found i t.2)
some_phrase (runs.missing n r) = let t = some_phrase r in (t.0, t.1, skips t.2)
some_phrase (runs.enters r) = let t = some_phrase r in (t.0, t.1, enters t.2)
some_phrase (runs.passes n r) = let t = some_phrase r in (t.0, t.1, passes t.2)
some_phrase (runs.opened r) = let t = some_phrase r in (t.0, t.1, opened t.2)

pub loosely : {b : Bool} {k : WideKind} {p : WidePlan b k} {room : ℕ} {ws rest : List WideWord} {x : WideOf k} → WidePlanRuns p room ws (Got (phrase k x) rest) → Loose p room ws x rest
loosely {k = k} {p = p} {room = room} {ws = ws} {rest = rest} {x = x} r = grind (arith, some_phrase, one_phrase)

pub wide : {b : Bool} {k : WideKind} {p : WidePlan b k} {room : ℕ} {ws rest : List WideWord} {x : WideOf k} → Loose p room ws x rest
    → (more : ℕ) → room ≤ more → Loose p more ws x rest
wide stands more h = stands
wide (goes d) more h = goes (wide d more h)
wide (calls x d e) more h = calls x (wide d more h) (wide e more h)
wide (found i d) more h = found i (wide d more h)
wide (skips d) more h = skips (wide d more h)
wide (enters d) more h = enters (wide d more h)
wide (passes d) more h = passes (wide d more h)
wide (opened d) (suc more) h = opened (wide d more (omega arith))
wide (opened d) zero h = absurd (omega arith)

pub carried : {b : Bool} {k : WideKind} {p : WidePlan b k} {room : ℕ} {ws rest : List WideWord} {x : WideOf k} → Loose p room ws x rest → (vs : List WideWord)
    → (us : List WideWord) × Alike rest vs ws us × Loose p room us x vs
carried stands vs = (vs, same, stands)
carried (goes d) vs = let t = carried d vs in (t.0, t.1, goes t.2)
carried (calls x d e) vs = let t = carried e vs in let u = carried d t.0 in (u.0, over t.1 u.1, calls x u.2 t.2)
carried (found {w = w} i d) vs = let t = carried d vs in (w ∷ t.0, down t.1, found i t.2)
carried (skips d) vs = let t = carried d vs in (t.0, t.1, skips t.2)
carried (enters {m = m} d) vs = let t = carried d vs in (mark m ∷ t.0, down t.1, enters t.2)
carried (passes d) vs = let t = carried d vs in (t.0, t.1, passes t.2)
carried (opened d) vs = let t = carried d vs in (t.0, t.1, opened t.2)
