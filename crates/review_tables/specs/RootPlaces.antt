-- The roots at references 4 to 8.
use Rattle.std.specs.Prelude.{◌≡◌, ◌≤◌, ℕ, List, [], ◌∷◌, Option, Result, Ok, Err, ◌⊎◌, ⊤}
use Rattle.serde_json.specs.Data as json
use Rattle.value_store.specs.Value.{Value}
use Rattle.value_store.specs.Placing.{Contents, charge_limit}
use Rattle.value_store.specs.Roots.{value_of}
use Rattle.value_store.specs.declared.table_error.TableError.{TableError, TheVariants.NotAnObject, TheVariants.NumberOutOfInt64, TheVariants.RootsTooLarge}
use Rattle.review_tables.specs.Reading.{PlacesValue, IsSoundPlace}
use Rattle.value_table.specs.References.{reference_values, AreReferences}
use Rattle.value_table.specs.declared.heap.Heap.{Heap}
use Rattle.review_tables.specs.declared.placed.Placed.{Placed}
use Rattle.review_tables.specs.declared.review_error.ReviewError.{ReviewError}
use Rattle.review_tables.specs.declared.review_error.ReviewError.TheVariants.{InvalidReview, InvalidDocument, RootRefused, ChargeTooLarge, Memory}

-- the values of these documents, one by one
abbrev pub ArePlacedValues : List Value → List (Option Placed) → List json.Data → Type 0
ArePlacedValues vs [] [] = ⊤
ArePlacedValues vs [] (d ∷ ds) = ⊥
ArePlacedValues vs (p ∷ ps) [] = ⊥
ArePlacedValues vs (p ∷ ps) (d ∷ ds) = PlacesValue vs p (value_of d) × ArePlacedValues vs ps ds

abbrev pub AreSoundPlaces : List Value → List (Option Placed) → Type 0
AreSoundPlaces vs [] = ⊤
AreSoundPlaces vs (p ∷ ps) = IsSoundPlace vs p × AreSoundPlaces vs ps

-- the references to the values and the charge, or the refusal
abbrev pub ChargeReturns : Heap → List ℕ → Result ℕ ReviewError → Result Contents TableError → Type 0
ChargeReturns h ps (Ok n) due = due ≡ Ok (record { values = reference_values h ps; charge = n })
ChargeReturns h ps (Err (RootRefused place)) due = (due ≡ Err (NotAnObject place)) ⊎ (due ≡ Err (NumberOutOfInt64 place))
ChargeReturns h ps (Err ChargeTooLarge) due = due ≡ Err RootsTooLarge
ChargeReturns h ps (Err Memory) due = ⊤
ChargeReturns h ps (Err InvalidReview) due = ⊥
ChargeReturns h ps (Err InvalidDocument) due = ⊥

-- references with a charge within the limit
pub record IsCharged (h : Heap) (ps : List ℕ) (n : ℕ) : Type 0 where
  pub references : AreReferences h ps
  pub limit : n ≤ charge_limit

-- the contents or the refusal that is due
abbrev pub TableReturns : {S : Type 0} → (S → Contents) → Result S ReviewError → Result Contents TableError → Type 0
TableReturns contents (Ok t) due = due ≡ Ok (contents t)
TableReturns contents (Err (RootRefused place)) due = (due ≡ Err (NotAnObject place)) ⊎ (due ≡ Err (NumberOutOfInt64 place))
TableReturns contents (Err ChargeTooLarge) due = due ≡ Err RootsTooLarge
TableReturns contents (Err Memory) due = ⊤
TableReturns contents (Err InvalidReview) due = ⊥
TableReturns contents (Err InvalidDocument) due = ⊥
