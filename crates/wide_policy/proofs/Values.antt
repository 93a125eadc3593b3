-- What the parts that are taken have for kinds and values.
use Rattle.std.proofs.Common.{◌≡◌, ℕ, Bool, true, false, List, refl, subst}
use Rattle.std.proofs.lemmas.Bool.{false≢true}
use Rattle.cel_reader.specs.Tree.{Tree}
use Rattle.wide_reader.specs.Tree.{Wide}
use Rattle.wide_kinds.specs.declared.kind.Kind.{Kind, TheVariants.Value, TheVariants.Optional}
use Rattle.wide_kinds.specs.declared.kind.ValueKind.{ValueKind}
use Rattle.wide_translation.proofs.Finished.{finished_means}
use Rattle.wide_translation.specs.Carried.{Translation, taken, refused}
use Rattle.wide_translation.specs.Declarations.{IsTranslatedTo}
use Rattle.wide_translation.specs.Results.{WideMeans}
use Rattle.wide_translation.specs.Scope.{WideScope, scope_of, condition_scope}
use Rattle.wide_translation.specs.Translated.{translated}
use Rattle.policy_glue.specs.declared.part_kind.PartKind.{PartKind}
use Rattle.policy_glue.specs.declared.part_kind.PartKind.TheVariants as part
use Rattle.wide_policy.specs.Carrying.{CarriesValue}
use Rattle.wide_policy.specs.Taking.{TakenExpression, Visible, IsTranslated, fits, IsTakenPart, scope_for}

-- a translation that is taken means what the expression means
means_by : (s : WideScope) (e : Wide) (t : Translation) (k : Kind) (a : Tree) → t ≡ translated s e → IsTranslatedTo t k a → WideMeans s e k a
means_by s e (taken c) k a is h = finished_means s e c k a is h
means_by s e (refused f) k a is h = absurd h

pub means_of : (p : PartKind) (s : Visible) (text : List ℕ) (x : TakenExpression) → IsTranslated p s text x
    → WideMeans (scope_for p s) x.wide x.kind x.tree
means_of p s text x is = means_by (scope_for p s) x.wide (translated (scope_for p s) x.wide) x.kind x.tree refl is.translation

-- a part other than a variable is a value
abbrev is_result : PartKind → Bool
is_result part.Variable = false
is_result _ = true

value_kind : (p : PartKind) (k : Kind) → is_result p ≡ true → fits p k ≡ true → (j : ValueKind) × (k ≡ Value j)
value_kind part.Variable k h f = absurd (false≢true h)
value_kind part.Condition (Value j) h f = (j, refl)
value_kind part.Condition (Optional j) h f = absurd (false≢true f)
value_kind part.Validation (Value j) h f = (j, refl)
value_kind part.Validation (Optional j) h f = absurd (false≢true f)
value_kind part.Message (Value j) h f = (j, refl)
value_kind part.Message (Optional j) h f = absurd (false≢true f)

carries_by : (p : PartKind) (s : Visible) (text : List ℕ) (x : TakenExpression) → is_result p ≡ true → IsTakenPart p s text x
    → CarriesValue (scope_for p s) x.wide x.tree
carries_by p s text x h is =
    let k = value_kind p x.kind h is.fit in
    record { kind = k.0; means = subst (λ (j : Kind). WideMeans (scope_for p s) x.wide j x.tree) k.1 (means_of p s text x is.is) }

pub condition_carries : (s : Visible) (text : List ℕ) (x : TakenExpression) → IsTakenPart part.Condition s text x → CarriesValue (condition_scope s.wrapped) x.wide x.tree
condition_carries s text x is = carries_by part.Condition s text x refl is

pub validation_carries : (s : Visible) (text : List ℕ) (x : TakenExpression) → IsTakenPart part.Validation s text x → CarriesValue (scope_of s.wrapped s.variables) x.wide x.tree
validation_carries s text x is = carries_by part.Validation s text x refl is

pub message_carries : (s : Visible) (text : List ℕ) (x : TakenExpression) → IsTakenPart part.Message s text x → CarriesValue (scope_of s.wrapped s.variables) x.wide x.tree
message_carries s text x is = carries_by part.Message s text x refl is
