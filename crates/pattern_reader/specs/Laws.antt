-- Laws of the definitions.
use Rattle.std.specs.Prelude.{◌≡◌, ℕ, zero, suc, ◌+◌, ◌++◌, List, [], ◌∷◌, length, drop, Bool, if◌then◌else◌, Option, Some, None}
use Rattle.pattern_reader.specs.Flags.{flags_at}
use Rattle.pattern_reader.specs.Reading.{ReadState, PatternOutcome, IsOutcome, taken, refused, step_at, start, is_complete, whole}
use Rattle.pattern_reader.specs.declared.item.Item.{Item}
use Rattle.pattern_reader.specs.declared.purpose.Purpose.{Purpose}

-- the outcome after at most `fuel` steps, if it is reached by then
unfoldable pub run : (fuel : ℕ) → Purpose → Bool → ReadState → List Item → ℕ → List ℕ → Option PatternOutcome
run zero purpose fold s items at points = None
run (suc fuel) purpose fold s items at [] =
    Some (if is_complete s then taken items (whole s.levels.inner) else refused at)
run (suc fuel) purpose fold s items at (c ∷ points) =
    elim (step_at purpose fold s (c ∷ points)) [
      | None ↦ Some (refused at)
      | Some t ↦ run fuel purpose fold t.state (items ++ (t.item ∷ [])) (at + t.len) (drop t.len (c ∷ points))
    ]

-- the outcome of a pattern as it is computed
abbrev pub outcome : Purpose → List ℕ → Option PatternOutcome
outcome purpose points =
    run (length points + 1) purpose (flags_at points).0.fold start [] (flags_at points).1 (drop (flags_at points).1 points)

-- what is computed is the outcome
abbrev pub ComputesOutcomes : Type 0
ComputesOutcomes = (purpose : Purpose) (points : List ℕ) (o : PatternOutcome) → outcome purpose points ≡ Some o → IsOutcome purpose points o

-- a pattern has one outcome
abbrev pub OutcomesAreUnique : Type 0
OutcomesAreUnique = (purpose : Purpose) (points : List ℕ) (a b : PatternOutcome) → IsOutcome purpose points a → IsOutcome purpose points b → a ≡ b
