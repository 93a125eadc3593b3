-- Proof obligation of `translate` (src/translated.rt).
use Rattle.std.proofs.Common.{◌≡◌, ◌∙◌, ap, sym, Bool, List, map, Bor}
use Rattle.wide_reader.specs.Tree as wide
use Rattle.wide_translation.specs.Declarations.{carried_view, declaration, scope_in, scope_step}
use Rattle.wide_translation.specs.Scope.{WideScope, scope_of}
use Rattle.wide_translation.specs.declared.names.Names as names
use Rattle.wide_translation.specs.declared.names.Names.{TheVariants.rolls-Outside}
use Rattle.wide_translation.specs.declared.names.Names.TheFolds.{fold-roll-Names}
use Rattle.wide_translation.specs.declared.scope.Variable.{Variable}
unfoldable use Rattle.wide_translation.specs.Translated.{translated}
use Rattle.wide_translation.proofs.Finished.{finished_means}
use Rattle.wide_translation.proofs.translated.translate.Goals as goal

-- the scope outside all macros
outside : (vs : Bor (List Variable)) (wrapped : Bool) → scope_in (names.Outside vs wrapped) ≡ scope_of wrapped (map declaration vs.now)
outside vs wrapped = ap scope_in (sym (rolls-Outside vs wrapped)) ∙ fold-roll-Names WideScope scope_step _

pub returns-clause-means : goal.returns-clause-means
returns-clause-means c =
    let scope = outside c.variables.result c.args.wrapped ∙ ap (scope_of c.args.wrapped) c.variables.ensures in
    finished_means (scope_of c.args.wrapped c.args.scope.now) (wide.view c.args.e.now) (carried_view c.in_ok-carried.carried) _ _
    (sym c.in_ok-carried.ensures ∙ ap (λ (s : WideScope). translated s (wide.view c.args.e.now)) scope)
    c.in_ok-finished.ensures
