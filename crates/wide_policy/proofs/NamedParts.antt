-- Results on single variables and conditions.
use Rattle.std.proofs.Common.{◌≡◌, ◌++◌, ◌∷◌, [], ℕ, List, refl, ap, ◌∙◌}
use Rattle.wide_kinds.specs.declared.kind.Kind.{Kind}
use Rattle.wide_translation.specs.Placed.{WideStep}
use Rattle.policy_glue.specs.Policy.{NamedExpression}
use Rattle.policy_glue.specs.declared.part_kind.PartKind.{PartKind}
use Rattle.policy_glue.specs.declared.part_kind.PartKind.TheVariants as part
use Rattle.wide_policy.specs.Returns.{IsAddedWide, IsPartTakenAs, with_variable}
use Rattle.wide_policy.specs.Taking.{TakesNamed, Visible, profile_named}

-- a part with its name
pub record IsNamedPart (p : PartKind) (s : Visible) (n : NamedExpression) (kind : Kind) (text : List ℕ) : Type 0 where
  pub step : WideStep
  pub takes : TakesNamed p s n step
  pub kind_is : kind ≡ step.kind
  pub profile : record { name = n.name; expression = text } ≡ profile_named step

pub named_is : (p : PartKind) (s : Visible) (n : NamedExpression) (kind : Kind) (text : List ℕ) → IsPartTakenAs p s n.expression kind text
    → IsNamedPart p s n kind text
named_is p s n kind text is = record {
  step = record { name = n.name; wide = is.expression.wide; kind = is.expression.kind; tree = is.expression.tree };
  takes = record { name = refl; expression = is.taken };
  kind_is = is.kind_is;
  profile = λ i. record { name = n.name; expression = is.text_is i };
}

pub condition_is : (s : Visible) (n m : NamedExpression) (kind : Kind) → IsPartTakenAs part.Condition s n.expression kind m.expression → m.name ≡ n.name
    → (v : WideStep) × TakesNamed part.Condition s n v × (m ≡ profile_named v)
unfolding named_is
condition_is s n m kind is name =
    let one = named_is part.Condition s n kind m.expression is in
    let first : m ≡ record { name = n.name; expression = m.expression } = λ i. record { name = name i; expression = m.expression } in
    (one.step, one.takes, first ∙ one.profile)

pub added_is : (n m : NamedExpression) (old new : Visible) (before after : List NamedExpression) (name : List ℕ) (kind : Kind)
    → IsPartTakenAs part.Variable old n.expression kind m.expression → m.name ≡ n.name → name ≡ n.name → new ≡ with_variable old (name, kind) → after ≡ before ++ m ∷ []
    → IsAddedWide n old new before after
unfolding named_is
added_is n m old new before after name kind is named same scope list =
    let one = named_is part.Variable old n kind m.expression is in
    let first : m ≡ record { name = n.name; expression = m.expression } = λ i. record { name = named i; expression = m.expression } in
    record {
      variable = one.step;
      taken = one.takes;
      scope = scope ∙ (λ i. with_variable old (same i, one.kind_is i));
      list = list ∙ ap (λ (x : NamedExpression). before ++ x ∷ []) (first ∙ one.profile);
    }
