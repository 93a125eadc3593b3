-- What carries an outcome also where a name of the translation has a value.
use Rattle.std.proofs.Common.{◌≡◌, ℕ, false, List, refl}
use Rattle.cel_reader.specs.Tree.{Tree}
use Rattle.value_store.specs.Value.{Value}
use Rattle.cel_macros.specs.Environment.{Environment, bind}
unfoldable use Rattle.cel_macros.specs.Environment.{is_root}
use Rattle.wide_meaning.specs.Environment.{WideEnvironment}
use Rattle.wide_meaning.specs.Outcome.{Outcome}
use Rattle.wide_kinds.specs.declared.kind.ValueKind.{ValueKind}
use Rattle.wide_translation.specs.Carried.{Carried, plain, guarded, listed, Translation, taken, refused}
use Rattle.wide_translation.specs.Holds.{IsPlain, Carries, WideHolds, WideStandsFor}
use Rattle.wide_translation.specs.Names.{second_name}
use Rattle.wide_translation.specs.Scope.{WideScope}
use Rattle.wide_translation.specs.Translated.{with_carried, on_plain}
use Rattle.wide_translation.proofs.Environments.{fresh_bound, second_is_fresh}

-- ---- the second name

pub second_bound : (s : WideScope) (v : Value) (env : WideEnvironment) (env' : Environment) → WideStandsFor s env env' → WideStandsFor s env (bind second_name v env')
second_bound s v env env' r = fresh_bound s second_name v env env' (second_is_fresh s) r

-- ---- what follows from a part that carries its outcome there too

abbrev pub Keeps : List ℕ → Carried → Outcome → Environment → Type 0
Keeps n c x env = (v : Value) → Carries c x (bind n v env)

pub with_kept : (n : List ℕ) (t : Translation) (f : Carried → Translation) (x o : Outcome) (env : Environment) → WideHolds t x env
    → ((v : Value) → WideHolds t x (bind n v env)) → ((c : Carried) → Carries c x env → Keeps n c x env → WideHolds (f c) o env) → WideHolds (with_carried t f) o env
with_kept n (taken c) f x o env h s g = g c h s
with_kept n (refused e) f x o env h s g = tt

pub on_plain_kept : (n : List ℕ) (c : Carried) (f : ValueKind → Tree → Translation) (x o : Outcome) (env : Environment) → Carries c x env → Keeps n c x env
    → ((k : ValueKind) (t : Tree) → IsPlain k t x env → ((v : Value) → IsPlain k t x (bind n v env)) → WideHolds (f k t) o env) → WideHolds (on_plain c f) o env
on_plain_kept n (plain k t) f x o env h s g = g k t h s
on_plain_kept n (guarded k a v) f x o env h s g = tt
on_plain_kept n (listed k l) f x o env h s g = tt
