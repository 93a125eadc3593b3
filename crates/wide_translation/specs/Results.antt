-- What the translation returns.
use Rattle.cel_reader.specs.Tree.{Tree}
use Rattle.cel_macros.specs.Environment.{Environment}
use Rattle.cel_macros.specs.Meaning.{meaning}
use Rattle.wide_reader.specs.Tree.{Wide}
use Rattle.wide_meaning.specs.Environment.{WideEnvironment}
use Rattle.wide_meaning.specs.Meaning.{wide_meaning}
use Rattle.wide_meaning.specs.Outcome.{Outcome}
use Rattle.wide_kinds.specs.declared.kind.Kind.{Kind, TheVariants.Value, TheVariants.Optional}
use Rattle.wide_translation.specs.Holds.{IsPlain, IsListed, WideStandsFor}
use Rattle.wide_translation.specs.Indexed.{IsTabled}
use Rattle.wide_translation.specs.Pairs.{table_tree}
use Rattle.wide_translation.specs.Scope.{WideScope}

-- a tree carries an outcome of this kind: a value, or an optional value as a list of none or one
abbrev pub IsCarried : Kind → Tree → Outcome → Environment → Type 0
IsCarried (Value k) a o env = IsPlain k a o env
IsCarried (Optional k) a o env = IsListed k a o env

-- In each environment that has the values of the names of another, and a table of indices that is long enough, the tree
-- carries what the wide expression means in that other one, whatever the calls mean that `wide_meaning` leaves open.
abbrev pub WideMeans : WideScope → Wide → Kind → Tree → Type 0
WideMeans s e k a =
    (others : Wide → WideEnvironment → Outcome) (env : WideEnvironment) (env' : Environment)
    → WideStandsFor s env env'
    → IsTabled others s.wrapped e env (meaning table_tree env')
    → IsCarried k a (wide_meaning others e env) env'
