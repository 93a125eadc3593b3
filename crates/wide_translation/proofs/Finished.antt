-- A finished translation carries what the wide expression means.
use Rattle.std.proofs.Common.{◌≡◌, sym, subst}
use Rattle.cel_reader.specs.Tree.{Tree}
use Rattle.cel_macros.specs.Environment.{Environment}
use Rattle.wide_reader.specs.Tree.{Wide}
use Rattle.wide_meaning.specs.Meaning.{wide_meaning}
use Rattle.wide_meaning.specs.Outcome.{Outcome}
use Rattle.wide_kinds.specs.declared.kind.Kind.{Kind}
use Rattle.wide_translation.specs.Carried.{Carried, plain, guarded, listed, Translation, taken}
use Rattle.wide_translation.specs.Forms.{guarded_tree}
use Rattle.wide_translation.specs.Holds.{Carries, WideHolds, IsPlain, IsListed}
use Rattle.wide_translation.specs.Results.{WideMeans, IsCarried}
use Rattle.wide_translation.specs.Scope.{WideScope}
use Rattle.wide_translation.specs.Translated.{IsFinished}
unfoldable use Rattle.wide_translation.specs.Translated.{translated}
use Rattle.wide_translation.proofs.Same.{translation_same}
use Rattle.wide_translation.proofs.Steps.{guarded_means}

carried_is : (c : Carried) (k : Kind) (a : Tree) (o : Outcome) (env : Environment) → IsFinished c k a → Carries c o env → IsCarried k a o env
carried_is (plain j t) k a o env f h =
    subst (λ (x : Kind). IsCarried x a o env) (sym f.0) (subst (λ (x : Tree). IsPlain j x o env) (sym f.1) h)
carried_is (guarded j g v) k a o env f h =
    let l : IsListed j (guarded_tree g v) o env = record { list = guarded_means g v o env h.guard h.value; kind = h.kind } in
    subst (λ (x : Kind). IsCarried x a o env) (sym f.0) (subst (λ (x : Tree). IsListed j x o env) (sym f.1) l)
carried_is (listed j m) k a o env f h =
    subst (λ (x : Kind). IsCarried x a o env) (sym f.0) (subst (λ (x : Tree). IsListed j x o env) (sym f.1) h)

pub finished_means : (s : WideScope) (e : Wide) (c : Carried) (k : Kind) (a : Tree) → taken c ≡ translated s e → IsFinished c k a → WideMeans s e k a
finished_means s e c k a p f others env env' r h =
    carried_is c k a (wide_meaning others e env) env' f
    (subst (λ (t : Translation). WideHolds t (wide_meaning others e env) env') (sym p) (translation_same others e s env env' r h))
