-- The law of the translation.
use Rattle.cel_macros.specs.Environment.{Environment}
use Rattle.cel_macros.specs.Meaning.{meaning}
use Rattle.wide_reader.specs.Tree.{Wide}
use Rattle.wide_meaning.specs.Environment.{WideEnvironment}
use Rattle.wide_meaning.specs.Meaning.{wide_meaning}
use Rattle.wide_meaning.specs.Outcome.{Outcome}
use Rattle.wide_translation.specs.Holds.{WideHolds, WideStandsFor}
use Rattle.wide_translation.specs.Indexed.{IsTabled}
use Rattle.wide_translation.specs.Pairs.{table_tree}
use Rattle.wide_translation.specs.Scope.{WideScope}
use Rattle.wide_translation.specs.Translated.{translated}

-- A translation, if there is one, carries what the wide expression means, in each environment that has the values of
-- the names of another; whatever the calls mean that `wide_meaning` leaves open. If it may use the table of indices, the
-- table is long enough for it.
abbrev pub TranslationMeansTheSame : Type 0
TranslationMeansTheSame =
    (others : Wide → WideEnvironment → Outcome) (e : Wide) (s : WideScope) (env : WideEnvironment) (env' : Environment)
    → WideStandsFor s env env'
    → IsTabled others s.wrapped e env (meaning table_tree env')
    → WideHolds (translated s e) (wide_meaning others e env) env'
