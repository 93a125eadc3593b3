-- A pattern has one outcome.
use Rattle.std.proofs.Common.{◌≡◌, ℕ, ◌+◌, ◌≤◌, List, [], ◌∷◌, ◌++◌, length, drop, Bool, true, false, Option, Some, None, refl, ap, sym, subst, arith}
use Rattle.pattern_reader.specs.Items.{next_at}
use Rattle.pattern_reader.specs.Laws.{OutcomesAreUnique}
use Rattle.pattern_reader.specs.Reading.{ReadState, ReadStep, PatternOutcome, ReadsPattern, taken, refused, step_at, step_of, is_complete, whole}
use Rattle.pattern_reader.specs.Reading.ReadsPattern.{ends, stops, goes, misfits}
use Rattle.pattern_reader.specs.declared.item.Item.{Item}
use Rattle.pattern_reader.specs.declared.place.Place.{Place}
use Rattle.pattern_reader.specs.declared.place.Place.TheVariants.{Outside, Opened, Inside}
use Rattle.pattern_reader.specs.declared.purpose.Purpose.{Purpose}

none_some : (x : Option ReadStep) (t : ReadStep) → x ≡ None → x ≡ Some t → ⊥
none_some x t d e = cc

same_step : (x : Option ReadStep) (t u : ReadStep) → x ≡ Some t → x ≡ Some u → t ≡ u
same_step x t u d e = cc

true_false : (b : Bool) → b ≡ true → b ≡ false → ⊥
true_false b d e = cc

nothing_next : (fold : Bool) (place : Place) → next_at fold place [] ≡ None
nothing_next fold Outside = refl
nothing_next fold Opened = refl
nothing_next fold Inside = refl

-- no step follows the end
past_end : (purpose : Purpose) (fold : Bool) (s : ReadState) (points : List ℕ) (t : ReadStep) → points ≡ [] → step_at purpose fold s points ≡ Some t → ⊥
past_end purpose fold s points t e f =
    none_some (step_at purpose fold s []) t (ap (step_of purpose s.levels) (nothing_next fold s.place))
    (subst (λ (ps : List ℕ). step_at purpose fold s ps ≡ Some t) e f)

not_empty : (points : List ℕ) → points ≡ [] → 1 ≤ length points → ⊥
not_empty points e l = omega (arith, ap length e)

-- what is read after a step
next_is : {purpose : Purpose} {fold : Bool} {s : ReadState} {items : List Item} {at : ℕ} {points : List ℕ} {o : PatternOutcome} (t : ReadStep)
    → step_at purpose fold s points ≡ Some t → ReadsPattern purpose fold s items at points o
    → ReadsPattern purpose fold t.state (items ++ (t.item ∷ [])) (at + t.len) (drop t.len points) o
next_is {purpose} {fold} {s} {items} {at} {points} {o} t e (ends f c) = absurd (past_end purpose fold s points t f e)
next_is {purpose} {fold} {s} {items} {at} {points} {o} t e (stops f c) = absurd (past_end purpose fold s points t f e)
next_is {purpose} {fold} {s} {items} {at} {points} {o} t e (goes u f r) =
    subst (λ (v : ReadStep). ReadsPattern purpose fold v.state (items ++ (v.item ∷ [])) (at + v.len) (drop v.len points) o)
    (same_step (step_at purpose fold s points) u t f e) r
next_is {purpose} {fold} {s} {items} {at} {points} {o} t e (misfits l f) = absurd (none_some (step_at purpose fold s points) t f e)

end_is : {purpose : Purpose} {fold : Bool} {s : ReadState} {items : List Item} {at : ℕ} {points : List ℕ} {o : PatternOutcome} → points ≡ []
    → is_complete s ≡ true → ReadsPattern purpose fold s items at points o → o ≡ taken items (whole s.levels.inner)
end_is {purpose} {fold} {s} {items} {at} {points} {o} e c (ends f d) = refl
end_is {purpose} {fold} {s} {items} {at} {points} {o} e c (stops f d) = absurd (true_false (is_complete s) c d)
end_is {purpose} {fold} {s} {items} {at} {points} {o} e c (goes t f r) = absurd (past_end purpose fold s points t e f)
end_is {purpose} {fold} {s} {items} {at} {points} {o} e c (misfits l f) = absurd (not_empty points e l)

stop_is : {purpose : Purpose} {fold : Bool} {s : ReadState} {items : List Item} {at : ℕ} {points : List ℕ} {o : PatternOutcome} → points ≡ []
    → is_complete s ≡ false → ReadsPattern purpose fold s items at points o → o ≡ refused at
stop_is {purpose} {fold} {s} {items} {at} {points} {o} e c (ends f d) = absurd (true_false (is_complete s) d c)
stop_is {purpose} {fold} {s} {items} {at} {points} {o} e c (stops f d) = refl
stop_is {purpose} {fold} {s} {items} {at} {points} {o} e c (goes t f r) = absurd (past_end purpose fold s points t e f)
stop_is {purpose} {fold} {s} {items} {at} {points} {o} e c (misfits l f) = absurd (not_empty points e l)

misfit_is : {purpose : Purpose} {fold : Bool} {s : ReadState} {items : List Item} {at : ℕ} {points : List ℕ} {o : PatternOutcome} → 1 ≤ length points
    → step_at purpose fold s points ≡ None → ReadsPattern purpose fold s items at points o → o ≡ refused at
misfit_is {purpose} {fold} {s} {items} {at} {points} {o} l e (ends f d) = absurd (not_empty points f l)
misfit_is {purpose} {fold} {s} {items} {at} {points} {o} l e (stops f d) = refl
misfit_is {purpose} {fold} {s} {items} {at} {points} {o} l e (goes t f r) = absurd (none_some (step_at purpose fold s points) t e f)
misfit_is {purpose} {fold} {s} {items} {at} {points} {o} l e (misfits m f) = refl

one_outcome : {purpose : Purpose} {fold : Bool} {s : ReadState} {items : List Item} {at : ℕ} {points : List ℕ} {a b : PatternOutcome}
    → ReadsPattern purpose fold s items at points a → ReadsPattern purpose fold s items at points b → a ≡ b
one_outcome (ends e c) r = sym (end_is e c r)
one_outcome (stops e c) r = sym (stop_is e c r)
one_outcome (goes t e r) q = one_outcome r (next_is t e q)
one_outcome (misfits l e) r = sym (misfit_is l e r)

pub outcomes_are_unique : OutcomesAreUnique
outcomes_are_unique purpose points a b r q = one_outcome r q
