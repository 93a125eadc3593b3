-- What is computed is the outcome of a pattern.
use Rattle.std.proofs.Common.{◌≡◌, ℕ, zero, suc, ◌+◌, ◌++◌, List, [], ◌∷◌, drop, Bool, true, false, if◌then◌else◌, Option, Some, None, refl, arith, subst}
use Rattle.pattern_reader.specs.Reading.{ReadState, ReadStep, PatternOutcome, ReadsPattern, taken, refused, step_at, is_complete, whole}
use Rattle.pattern_reader.specs.Reading.ReadsPattern.{ends, stops, goes, misfits}
use Rattle.pattern_reader.specs.Laws.{run, ComputesOutcomes}
use Rattle.pattern_reader.specs.declared.item.Item.{Item}
use Rattle.pattern_reader.specs.declared.purpose.Purpose.{Purpose}

at_end : (purpose : Purpose) (fold : Bool) (s : ReadState) (items : List Item) (at : ℕ) (b : Bool) → is_complete s ≡ b
    → ReadsPattern purpose fold s items at [] (if b then taken items (whole s.levels.inner) else refused at)
at_end purpose fold s items at true e = ends refl e
at_end purpose fold s items at false e = stops refl e

none_some : (x : Option PatternOutcome) (o : PatternOutcome) → x ≡ None → x ≡ Some o → ⊥
none_some x o d e = cc

some_is : (a b : PatternOutcome) → Some a ≡ Some b → a ≡ b
some_is a b e = cc

step_is : (fuel : ℕ) (purpose : Purpose) (fold : Bool) (s : ReadState) (items : List Item) (at : ℕ) (c : ℕ) (points : List ℕ) (o : PatternOutcome)
    (x : Option ReadStep) → step_at purpose fold s (c ∷ points) ≡ x
    → ((t : ReadStep) → run fuel purpose fold t.state (items ++ (t.item ∷ [])) (at + t.len) (drop t.len (c ∷ points)) ≡ Some o
    → ReadsPattern purpose fold t.state (items ++ (t.item ∷ [])) (at + t.len) (drop t.len (c ∷ points)) o)
    → elim x as (λ _. Option PatternOutcome) [
      | None ↦ Some (refused at)
      | Some t ↦ run fuel purpose fold t.state (items ++ (t.item ∷ [])) (at + t.len) (drop t.len (c ∷ points))
    ] ≡ Some o
    → ReadsPattern purpose fold s items at (c ∷ points) o
step_is fuel purpose fold s items at c points o None e rest f =
    let P : PatternOutcome → Type 0 = λ (q : PatternOutcome). ReadsPattern purpose fold s items at (c ∷ points) q in
    subst P (some_is (refused at) o f) (misfits (omega arith) e)
step_is fuel purpose fold s items at c points o (Some t) e rest f = goes t e (rest t f)

run_is : (fuel : ℕ) (purpose : Purpose) (fold : Bool) (s : ReadState) (items : List Item) (at : ℕ) (points : List ℕ) (o : PatternOutcome)
    → run fuel purpose fold s items at points ≡ Some o → ReadsPattern purpose fold s items at points o
unfolding run
run_is zero purpose fold s items at points o e = absurd (none_some None o refl e)
run_is (suc fuel) purpose fold s items at [] o e =
    let P : PatternOutcome → Type 0 = λ (q : PatternOutcome). ReadsPattern purpose fold s items at [] q in
    subst P (some_is _ o e) (at_end purpose fold s items at (is_complete s) refl)
run_is (suc fuel) purpose fold s items at (c ∷ points) o e =
    step_is fuel purpose fold s items at c points o (step_at purpose fold s (c ∷ points)) refl (λ t f. run_is fuel purpose fold t.state _ _ _ o f) e

pub computes_outcomes : ComputesOutcomes
computes_outcomes purpose points o e = run_is _ _ _ _ _ _ _ o e
