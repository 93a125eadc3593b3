-- The law of the reach.
use Rattle.std.specs.Prelude.{◌≡◌, ℕ, ℤ, true, List, [], Some, is_some, unwrap_or, ⊤, Contains}
use Rattle.value_store.specs.Value.{Value, int, text}
use Rattle.cel_macros.specs.Environment.{lookup}
use Rattle.wide_reader.specs.Tree.{Wide}
use Rattle.wide_meaning.specs.Environment.{WideEnvironment, hides_variables, variable_in}
use Rattle.wide_meaning.specs.Meaning.{wide_meaning}
use Rattle.wide_meaning.specs.Outcome.{Outcome, failed, plain, absent, present}
use Rattle.wide_reach.specs.Reached.{IsReached}
use Rattle.wide_reach.specs.Known.{KnownNames, has_reach, is_hidden, known}
use Rattle.wide_reach.specs.Ranges.{Ranges, reach}

-- the value, if there is one, is reached by these values
abbrev pub IsOutcomeReached : List Value → Outcome → Type 0
IsOutcomeReached vs failed = ⊤
IsOutcomeReached vs absent = ⊤
IsOutcomeReached vs (plain v) = IsReached vs v
IsOutcomeReached vs (present v) = IsReached vs v

-- the same iteration names are in scope, and each name and variable that is known to have a reach is in its range
pub record AreInRange (s : KnownNames) (r : Ranges) (env : WideEnvironment) : Type 0 where
  pub named : (x : List ℕ) (v : Value) → known (lookup x s.names) ≡ true → lookup x env.items ≡ Some v
      → IsReached (unwrap_or (lookup x r.names) []) v
  pub ranged : (x : List ℕ) → is_some (lookup x r.names) ≡ is_some (lookup x env.items)
  pub hidden : is_hidden s ≡ hides_variables env.items
  pub varied : (x : List ℕ) → known (lookup x s.variables) ≡ true
      → IsOutcomeReached (unwrap_or (lookup x r.variables) []) (variable_in x env.variables)

-- in an environment whose names are in their ranges, the value of an expression with a reach is reached by it, whatever
-- the calls mean that `wide_meaning` leaves open
abbrev pub ValuesAreReached : Type 0
ValuesAreReached = (others : Wide → WideEnvironment → Outcome) (s : KnownNames) (r : Ranges) (env : WideEnvironment) (e : Wide)
    → AreInRange s r env → has_reach s e ≡ true → IsOutcomeReached (reach env.roots r e) (wide_meaning others e env)

-- an int or a text that is reached by values is one of them
pub record ScalarsAreContained : Type 0 where
  pub ints : (vs : List Value) (z : ℤ) → IsReached vs (int z) → Contains vs (int z)
  pub texts : (vs : List Value) (t : List ℕ) → IsReached vs (text t) → Contains vs (text t)
