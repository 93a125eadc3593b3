-- Proof obligations of `composed_calls::method`.
use Rattle.std.proofs.Common.{[], ◌∷◌, sym, subst}
use Rattle.wide_meaning.specs.declared.function.Method.{Method}
use Rattle.wide_translation.specs.Declarations.{ReturnsCarried, carried_view}
use Rattle.wide_translation.specs.Translated as specs
use Rattle.wide_translation.proofs.composed_calls.method.Goals as goal

pub returns-in-StartsWith : goal.returns-in-StartsWith
returns-in-StartsWith c u h =
    subst (λ (m : Method). ReturnsCarried (specs.method_carried m (carried_view c.args.of) (u ∷ [])) c.text_test.result) (sym c.in-StartsWith.is) (c.text_test.ensures u h)

pub returns-in-EndsWith : goal.returns-in-EndsWith
returns-in-EndsWith c u h =
    subst (λ (m : Method). ReturnsCarried (specs.method_carried m (carried_view c.args.of) (u ∷ [])) c.text_test-in-EndsWith.result) (sym c.in-EndsWith.is) (c.text_test-in-EndsWith.ensures u h)

pub returns-in-Contains : goal.returns-in-Contains
returns-in-Contains c u h =
    subst (λ (m : Method). ReturnsCarried (specs.method_carried m (carried_view c.args.of) (u ∷ [])) c.text_test-in-Contains.result) (sym c.in-Contains.is) (c.text_test-in-Contains.ensures u h)

pub returns-in-OrValue : goal.returns-in-OrValue
returns-in-OrValue c u h =
    subst (λ (m : Method). ReturnsCarried (specs.method_carried m (carried_view c.args.of) (u ∷ [])) c.or_value.result) (sym c.in-OrValue.is) (c.or_value.ensures u h)

pub returns-in-Or : goal.returns-in-Or
returns-in-Or c u h =
    subst (λ (m : Method). ReturnsCarried (specs.method_carried m (carried_view c.args.of) (u ∷ [])) c.or.result) (sym c.in-Or.is) (c.or.ensures u h)
