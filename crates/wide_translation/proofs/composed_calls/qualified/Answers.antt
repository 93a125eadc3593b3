-- Proof obligations of `composed_calls::qualified`.
use Rattle.std.proofs.Common.{[], ◌∷◌, sym, subst}
use Rattle.wide_meaning.specs.declared.function.Qualified.{Qualified}
use Rattle.wide_translation.specs.Declarations.{ReturnsCarried}
use Rattle.wide_translation.specs.Translated as specs
use Rattle.wide_translation.proofs.composed_calls.qualified.Goals as goal

pub returns-in-OptionalOf : goal.returns-in-OptionalOf
returns-in-OptionalOf c t h =
    subst (λ (q : Qualified). ReturnsCarried (specs.qualified_translation q c.args.name.now (t ∷ [])) c.optional_of.result) (sym c.in-OptionalOf.is) (c.optional_of.ensures t h)

pub returns-in-OptionalOfNonZeroValue : goal.returns-in-OptionalOfNonZeroValue
returns-in-OptionalOfNonZeroValue c t h =
    subst (λ (q : Qualified). ReturnsCarried (specs.qualified_translation q c.args.name.now (t ∷ [])) c.optional_of_non_zero.result) (sym c.in-OptionalOfNonZeroValue.is) (c.optional_of_non_zero.ensures t h)
