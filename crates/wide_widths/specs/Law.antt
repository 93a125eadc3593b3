-- The law of narrow expressions.
use Rattle.std.specs.Prelude.{◌≡◌, ◌≤◌, ℕ, true, List, Some, ⊤}
use Rattle.value_store.specs.Value.{Value}
use Rattle.value_widths.specs.Width.{width_of}
use Rattle.cel_macros.specs.Environment.{Roots, lookup}
use Rattle.wide_reader.specs.Tree.{Wide}
use Rattle.wide_meaning.specs.Environment.{WideEnvironment, hides_variables, variable_in}
use Rattle.wide_meaning.specs.Meaning.{wide_meaning}
use Rattle.wide_meaning.specs.Outcome.{Outcome, failed, plain, absent, present}
use Rattle.wide_widths.specs.Narrow.{NarrowNames, is_narrow, is_hidden, known, literal_limit}

-- the value, if there is one, is at most this wide
abbrev pub IsOutcomeWithin : ℕ → Outcome → Type 0
IsOutcomeWithin n failed = ⊤
IsOutcomeWithin n absent = ⊤
IsOutcomeWithin n (plain v) = width_of v ≤ n
IsOutcomeWithin n (present v) = width_of v ≤ n

-- the documents are at most this wide
pub record AreRootsWithin (n : ℕ) (roots : Roots) : Type 0 where
  pub object : width_of roots.object ≤ n
  pub old_object : width_of roots.old_object ≤ n
  pub params : width_of roots.params ≤ n
  pub namespace_object : width_of roots.namespace_object ≤ n
  pub request : width_of roots.request ≤ n

-- the documents, the values of the names that are known to be narrow, and literals are at most this wide
pub record IsEnvironmentWithin (n : ℕ) (s : NarrowNames) (env : WideEnvironment) : Type 0 where
  pub roots : AreRootsWithin n env.roots
  pub literals : literal_limit ≤ n
  pub named : (x : List ℕ) (v : Value) → known (lookup x s.names) ≡ true → lookup x env.items ≡ Some v → width_of v ≤ n
  pub hidden : is_hidden s ≡ hides_variables env.items
  pub varied : (x : List ℕ) → known (lookup x s.variables) ≡ true → IsOutcomeWithin n (variable_in x env.variables)

-- in such an environment the value of a narrow expression is at most this wide, whatever the calls mean that
-- `wide_meaning` leaves open
abbrev pub NarrowMeansWithin : Type 0
NarrowMeansWithin = (others : Wide → WideEnvironment → Outcome) (n : ℕ) (s : NarrowNames) (env : WideEnvironment) (e : Wide)
    → IsEnvironmentWithin n s env → is_narrow s e ≡ true → IsOutcomeWithin n (wide_meaning others e env)
