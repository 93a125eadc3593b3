-- The laws of narrow ranges.
use Rattle.std.specs.Prelude.{◌≡◌, ◌≤◌, ℕ, Bool, true, List, []}
use Rattle.value_store.specs.Value.{value, list, items_of}
use Rattle.cel_macros.specs.Environment.{Roots}
use Rattle.wide_reader.specs.Tree.{Wide}
use Rattle.wide_meaning.specs.Environment.{WideEnvironment}
use Rattle.wide_meaning.specs.Outcome.{Outcome}
use Rattle.wide_translation.specs.Indexed.{Indexed, ints_from}
use Rattle.wide_translation.specs.Placed.{AreTabled, WideStep, condition_roots}
use Rattle.wide_widths.specs.Law.{IsEnvironmentWithin}
use Rattle.wide_widths.specs.Narrow.{NarrowNames}
use Rattle.wide_indices.specs.Narrow.{has_narrow_ranges, policy_has_narrow_ranges, outside}
use Rattle.wide_indices.specs.Tables.{index_tables, table_length}

-- in an environment that is at most n wide, n indices are enough for an expression with narrow ranges
abbrev pub NarrowRangesAreIndexed : Type 0
NarrowRangesAreIndexed = (others : Wide → WideEnvironment → Outcome) (n m : ℕ) (s : NarrowNames) (env : WideEnvironment) (e : Wide)
    → n ≤ m → IsEnvironmentWithin n s env → has_narrow_ranges s e ≡ true
    → Indexed others (value (list (items_of (ints_from 0 m)))) e env

-- tables with as many indices as the documents are wide, and at least 16, are enough for the expressions of a policy
-- with narrow ranges, after its variables
abbrev pub NarrowPoliciesAreTabled : Type 0
NarrowPoliciesAreTabled = (others : Wide → WideEnvironment → Outcome) (wrapped : Bool) (m : ℕ) (roots : Roots) (vs : List WideStep)
    (e : Wide) → table_length roots ≤ m → policy_has_narrow_ranges [] vs e ≡ true
    → AreTabled others wrapped (index_tables m) roots [] vs e

-- and for its match conditions
abbrev pub NarrowConditionsAreTabled : Type 0
NarrowConditionsAreTabled = (others : Wide → WideEnvironment → Outcome) (wrapped : Bool) (m : ℕ) (roots : Roots) (e : Wide)
    → table_length roots ≤ m → has_narrow_ranges (outside []) e ≡ true
    → AreTabled others wrapped (index_tables m) (condition_roots roots) [] [] e
