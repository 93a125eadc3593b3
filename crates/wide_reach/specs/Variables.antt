-- The variables of a policy, each of which may use those before it.
use Rattle.std.specs.Prelude.{ℕ, Bool, List, [], ◌∷◌, ◌++◌, fold}
use Rattle.value_store.specs.Value.{Value}
use Rattle.cel_macros.specs.Environment.{Roots}
use Rattle.wide_reader.specs.Tree.{Wide}
use Rattle.wide_meaning.specs.Environment.{WideEnvironment}
use Rattle.wide_meaning.specs.Meaning.{wide_meaning}
use Rattle.wide_meaning.specs.Outcome.{Outcome}
use Rattle.wide_reach.specs.Known.{outside, has_reach}
use Rattle.wide_reach.specs.Law.{AreInRange}
use Rattle.wide_reach.specs.Ranges.{ranges_outside, reach}

-- outside of macros, with these variables
abbrev pub environment : Roots → List (List ℕ × Outcome) → WideEnvironment
environment roots variables = record { roots = roots; items = []; variables = variables }

-- one more variable, by its name and its expression: whether it has a reach, its reach, and its value
abbrev pub with_known : List (List ℕ × Bool) → List ℕ × Wide → List (List ℕ × Bool)
with_known before v = before ++ (v.0, has_reach (outside before) v.1) ∷ []

abbrev pub with_range : Roots → List (List ℕ × List Value) → List ℕ × Wide → List (List ℕ × List Value)
with_range roots before v = before ++ (v.0, reach roots (ranges_outside before) v.1) ∷ []

abbrev pub with_outcome : (Wide → WideEnvironment → Outcome) → Roots → List (List ℕ × Outcome) → List ℕ × Wide → List (List ℕ × Outcome)
with_outcome others roots before v = before ++ (v.0, wide_meaning others v.1 (environment roots before)) ∷ []

-- after the variables of a policy, each that has a reach is in its range
abbrev pub VariablesAreInRange : Type 0
VariablesAreInRange = (others : Wide → WideEnvironment → Outcome) (roots : Roots) (vs : List (List ℕ × Wide))
    → AreInRange (outside (fold with_known [] vs)) (ranges_outside (fold (with_range roots) [] vs))
    (environment roots (fold (with_outcome others roots) [] vs))
