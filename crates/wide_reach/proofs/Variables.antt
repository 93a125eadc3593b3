-- The variables of a policy are in their ranges.
use Rattle.std.proofs.Common.{◌≡◌, ℕ, Bool, true, false, List, [], ◌∷◌, ◌++◌, Option, Some, refl, ap, fold}
use Rattle.std.proofs.Common.{bytes_eq, if◌then◌else◌, unwrap_or}
use Rattle.value_store.specs.Value.{Value}
use Rattle.cel_macros.specs.Environment.{Roots, lookup}
use Rattle.wide_reader.specs.Tree.{Wide}
use Rattle.wide_meaning.specs.Environment.{WideEnvironment, variable_in}
use Rattle.wide_meaning.specs.Outcome.{Outcome, failed}
use Rattle.wide_reach.specs.Known.{known, outside}
use Rattle.wide_reach.specs.Law.{IsOutcomeReached, AreInRange}
use Rattle.wide_reach.specs.Ranges.{ranges_outside}
use Rattle.wide_reach.specs.Variables.{environment, with_known, with_range, with_outcome, VariablesAreInRange}
use Rattle.wide_reach.proofs.Law.{values_are_reached}

-- the same names in the same order, each in its range if it has a reach
abbrev pub AreAligned : List (List ℕ × Bool) → List (List ℕ × List Value) → List (List ℕ × Outcome) → Type 0
AreAligned [] [] [] = Unit {0}
AreAligned (p ∷ ks) (q ∷ rs) (o ∷ os) = (p.0 ≡ q.0) × (p.0 ≡ o.0) × (p.1 ≡ true → IsOutcomeReached q.1 o.1) × AreAligned ks rs os
AreAligned _ _ _ = ⊥

looked_by : (b c d k : Bool) (us : List Value) (o : Outcome) (ks : Option Bool) (rs : Option (List Value)) (os : Option Outcome) → b ≡ c
    → b ≡ d
    → (k ≡ true → IsOutcomeReached us o) → (known ks ≡ true → IsOutcomeReached (unwrap_or rs []) (unwrap_or os failed))
    → known (if b then Some k else ks) ≡ true
    → IsOutcomeReached (unwrap_or (if c then Some us else rs) []) (unwrap_or (if d then Some o else os) failed)
looked_by true true true k us o ks rs os e f g h i = g i
looked_by false false false k us o ks rs os e f g h i = h i
looked_by true true false k us o ks rs os e f g h i = absurd (cc)
looked_by true false d k us o ks rs os e f g h i = absurd (cc)
looked_by false true d k us o ks rs os e f g h i = absurd (cc)
looked_by false false true k us o ks rs os e f g h i = absurd (cc)

looked : (x : List ℕ) (ks : List (List ℕ × Bool)) (rs : List (List ℕ × List Value)) (os : List (List ℕ × Outcome)) → AreAligned ks rs os
    → known (lookup x ks) ≡ true → IsOutcomeReached (unwrap_or (lookup x rs) []) (variable_in x os)
looked x [] [] [] h i = tt
looked x [] [] (o ∷ os) h i = absurd h
looked x [] (q ∷ rs) os h i = absurd h
looked x (p ∷ ks) [] os h i = absurd h
looked x (p ∷ ks) (q ∷ rs) [] h i = absurd h
looked x (p ∷ ks) (q ∷ rs) (o ∷ os) h i =
    looked_by (bytes_eq p.0 x) (bytes_eq q.0 x) (bytes_eq o.0 x) p.1 q.1 o.1 (lookup x ks) (lookup x rs) (lookup x os)
    (ap (λ (n : List ℕ). bytes_eq n x) h.0) (ap (λ (n : List ℕ). bytes_eq n x) h.1) h.2 (looked x ks rs os h.3) i

aligned_more : (x : List ℕ) (b : Bool) (us : List Value) (o : Outcome) (ks : List (List ℕ × Bool)) (rs : List (List ℕ × List Value))
    (os : List (List ℕ × Outcome)) → (b ≡ true → IsOutcomeReached us o) → AreAligned ks rs os
    → AreAligned (ks ++ (x, b) ∷ []) (rs ++ (x, us) ∷ []) (os ++ (x, o) ∷ [])
aligned_more x b us o [] [] [] g h = (refl, refl, g, tt)
aligned_more x b us o [] [] (w ∷ os) g h = absurd h
aligned_more x b us o [] (q ∷ rs) os g h = absurd h
aligned_more x b us o (p ∷ ks) [] os g h = absurd h
aligned_more x b us o (p ∷ ks) (q ∷ rs) [] g h = absurd h
aligned_more x b us o (p ∷ ks) (q ∷ rs) (w ∷ os) g h = (h.0, h.1, h.2, aligned_more x b us o ks rs os g h.3)

outside_in_range : (roots : Roots) (ks : List (List ℕ × Bool)) (rs : List (List ℕ × List Value)) (os : List (List ℕ × Outcome))
    → AreAligned ks rs os
    → AreInRange (outside ks) (ranges_outside rs) (environment roots os)
outside_in_range roots ks rs os h = record {
  named = λ x v k e. absurd (cc);
  ranged = λ x. refl;
  hidden = refl;
  varied = λ x k. looked x ks rs os h k;
}

all_aligned : (others : Wide → WideEnvironment → Outcome) (roots : Roots) (vs : List (List ℕ × Wide)) (ks : List (List ℕ × Bool))
    (rs : List (List ℕ × List Value)) (os : List (List ℕ × Outcome)) → AreAligned ks rs os
    → AreAligned (fold with_known ks vs) (fold (with_range roots) rs vs) (fold (with_outcome others roots) os vs)
all_aligned others roots [] ks rs os h = h
all_aligned others roots (v ∷ vs) ks rs os h =
    all_aligned others roots vs (with_known ks v) (with_range roots rs v) (with_outcome others roots os v)
    (aligned_more v.0 _ _ _ ks rs os
    (values_are_reached others (outside ks) (ranges_outside rs) (environment roots os) v.1 (outside_in_range roots ks rs os h)) h)

pub variables_are_in_range : VariablesAreInRange
variables_are_in_range others roots vs =
    outside_in_range roots (fold with_known [] vs) (fold (with_range roots) [] vs) (fold (with_outcome others roots) [] vs)
    (all_aligned others roots vs [] [] [] tt)
