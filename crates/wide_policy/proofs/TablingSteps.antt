-- Whether a table of indices is long enough for an expression, whose text is read anew.
use Rattle.std.proofs.Common.{◌≡◌, ◌∙◌, ℕ, Bool, List, [], ◌∷◌, ◌++◌, sym, ap, subst}
use Rattle.policy_glue.specs.Policy.{NamedExpression}
use Rattle.wide_reader.proofs.Told.{one_wide}
use Rattle.wide_reader.specs.Answers.{IsWide}
use Rattle.wide_reader.specs.Tree.{Wide}
use Rattle.wide_widths.specs.Narrow.{is_narrow}
use Rattle.wide_indices.specs.Narrow.{outside}
use Rattle.wide_policy.specs.NarrowTrees.{is_tabled, with_known_variable}
use Rattle.wide_policy.specs.Reading.{IsWideVariable}
use Rattle.wide_policy.specs.WideTrees.{WideVariableTree}

pub tabled_text : (known : List (List ℕ × Bool)) (text : List ℕ) (w e : Wide) (b : Bool) → b ≡ is_tabled known w → IsWide text w → IsWide text e → b ≡ is_tabled known e
tabled_text known text w e b found is also = found ∙ ap (is_tabled known) (one_wide text w e is also)

pub variable_added : (n : NamedExpression) (v : WideVariableTree) (old new : List (List ℕ × Bool)) (w : Wide) (b : Bool) (text name : List ℕ) → text ≡ n.expression → name ≡ n.name
    → b ≡ is_tabled old w → new ≡ old ++ (name, is_narrow (outside old) w) ∷ [] → IsWide text w → IsWideVariable n v → (b ≡ is_tabled old v.expression) × (new ≡ with_known_variable old v)
variable_added n v old new w b text name here named found added is also =
    let same : w ≡ v.expression = one_wide n.expression w v.expression (subst (λ (t : List ℕ). IsWide t w) here is) also.expression in (
      found ∙ ap (is_tabled old) same,
      added ∙ (λ i. old ++ ((named ∙ sym also.name) i, is_narrow (outside old) (same i)) ∷ []),
    )
