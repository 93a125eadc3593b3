-- The environment in which a policy's translations are evaluated.
use Rattle.std.specs.Prelude.{ℕ, Bool, true, false, List, [], ◌∷◌, ◌++◌, fold, map as each, ⊤}
use Rattle.value_store.specs.Value.{Value, ValueOrError, value, map, entry, no_entries, null}
use Rattle.cel_macros.specs.Selection.{field_of}
use Rattle.cel_reader.specs.Tree.{Tree}
use Rattle.cel_macros.specs.Environment.{Environment, Roots}
use Rattle.cel_macros.specs.Meaning.{meaning}
use Rattle.wide_reader.specs.Tree.{Wide}
use Rattle.wide_meaning.specs.Environment.{WideEnvironment}
use Rattle.wide_meaning.specs.Meaning.{wide_meaning}
use Rattle.wide_meaning.specs.Outcome.{Outcome}
use Rattle.wide_kinds.specs.declared.kind.Kind.{Kind}
use Rattle.wide_translation.specs.Indexed.{IsTabled}
use Rattle.wide_translation.specs.Scope.{scope_of, condition_scope}
use Rattle.wide_translation.specs.Names.{params_field, tables_field, indices_field}
use Rattle.wide_translation.specs.Results.{WideMeans, IsCarried}

-- {"t": tables, "v": params}
abbrev pub with_tables : Value → Value → Value
with_tables ts p = map (entry tables_field ts (entry params_field p no_entries))

-- the roots; if they are wrapped, with tables beside the parameters
abbrev pub placed : Bool → Value → Roots → Roots
placed true ts roots = record roots { params = with_tables ts roots.params }
placed false ts roots = roots

-- the roots of match conditions: API servers evaluate them without a namespace (apiserver,
-- webhook/matchconditions/matcher.go, Match)
abbrev pub condition_roots : Roots → Roots
condition_roots roots = record roots { namespace_object = null }

-- environments outside of macros
abbrev pub wide_environment : Roots → List (List ℕ × Outcome) → WideEnvironment
wide_environment roots variables = record { roots = roots; items = []; variables = variables }

abbrev pub environment : Roots → List (List ℕ × ValueOrError) → Environment
environment roots variables = record { roots = roots; items = []; variables = variables }

-- a variable of a policy: its name, its expression, and the translation with its kind
pub record WideStep : Type 0 where
  pub name : List ℕ
  pub wide : Wide
  pub kind : Kind
  pub tree : Tree

-- a variable and its kind
abbrev pub kind_of : WideStep → List ℕ × Kind
kind_of v = (v.name, v.kind)

-- each variable is translated in the scope of the variables before it
abbrev pub AreTranslated : Bool → List (List ℕ × Kind) → List WideStep → Type 0
AreTranslated wrapped before [] = ⊤
AreTranslated wrapped before (v ∷ vs) =
    WideMeans (scope_of wrapped before) v.wide v.kind v.tree × AreTranslated wrapped (before ++ kind_of v ∷ []) vs

-- the values of the variables: of the wide expressions, and of the translations, each with the values of those before
-- it
abbrev pub with_outcome :
    (Wide → WideEnvironment → Outcome) → Roots → List (List ℕ × Outcome) → WideStep → List (List ℕ × Outcome)
with_outcome others roots before v = before ++ (v.name, wide_meaning others v.wide (wide_environment roots before)) ∷ []

abbrev pub with_value : Roots → List (List ℕ × ValueOrError) → WideStep → List (List ℕ × ValueOrError)
with_value roots before v = before ++ (v.name, meaning v.tree (environment roots before)) ∷ []

-- the table of indices in these tables
abbrev pub table_in : Value → ValueOrError
table_in ts = field_of (value ts) indices_field

-- the table of indices is long enough for the variables, each evaluated after those before it, and then for e
abbrev pub AreTabled :
    (Wide → WideEnvironment → Outcome) → Bool → Value → Roots → List (List ℕ × Outcome) → List WideStep → Wide → Type 0
AreTabled others wrapped ts roots before [] e = IsTabled others wrapped e (wide_environment roots before) (table_in ts)
AreTabled others wrapped ts roots before (v ∷ vs) e =
    IsTabled others wrapped v.wide (wide_environment roots before) (table_in ts)
    × AreTabled others wrapped ts roots (with_outcome others roots before v) vs e

-- A translation in the scope of a policy's variables carries what the wide expression means with their values,
-- whatever tables the root `params` has besides one of indices that is long enough. So do all conditions, validations
-- and messages.
abbrev pub PolicyMeansTheSame : Type 0
PolicyMeansTheSame =
    (others : Wide → WideEnvironment → Outcome) (wrapped : Bool) (ts : Value) (roots : Roots) (vs : List WideStep)
    (e : Wide) (k : Kind) (a : Tree)
    → AreTranslated wrapped [] vs → WideMeans (scope_of wrapped (each kind_of vs)) e k a
    → AreTabled others wrapped ts roots [] vs e
    → IsCarried k a (wide_meaning others e (wide_environment roots (fold (with_outcome others roots) [] vs)))
    (environment (placed wrapped ts roots) (fold (with_value (placed wrapped ts roots)) [] vs))

-- A translation of a match condition carries what the wide expression means without a namespace, likewise.
abbrev pub ConditionMeansTheSame : Type 0
ConditionMeansTheSame =
    (others : Wide → WideEnvironment → Outcome) (wrapped : Bool) (ts : Value) (roots : Roots) (e : Wide) (k : Kind) (a : Tree)
    → WideMeans (condition_scope wrapped) e k a
    → AreTabled others wrapped ts (condition_roots roots) [] [] e
    → IsCarried k a (wide_meaning others e (wide_environment (condition_roots roots) []))
    (environment (placed wrapped ts roots) [])
