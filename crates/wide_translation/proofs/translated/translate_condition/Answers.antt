-- Proof obligation of `translate_condition` (src/translated.rt).
use Rattle.std.proofs.Common.{◌≡◌, ◌∙◌, ap, sym, Bool}
use Rattle.wide_reader.specs.Tree as wide
use Rattle.wide_translation.specs.Declarations.{carried_view, scope_in, scope_step}
use Rattle.wide_translation.specs.Scope.{WideScope, condition_scope}
use Rattle.wide_translation.specs.declared.names.Names as names
use Rattle.wide_translation.specs.declared.names.Names.{TheVariants.rolls-Condition}
use Rattle.wide_translation.specs.declared.names.Names.TheFolds.{fold-roll-Names}
unfoldable use Rattle.wide_translation.specs.Translated.{translated}
use Rattle.wide_translation.proofs.Finished.{finished_means}
use Rattle.wide_translation.proofs.translated.translate_condition.Goals as goal

-- the scope outside all macros
outside : (wrapped : Bool) → scope_in (names.Condition wrapped) ≡ condition_scope wrapped
outside wrapped = ap scope_in (sym (rolls-Condition wrapped)) ∙ fold-roll-Names WideScope scope_step _

pub returns-clause-means : goal.returns-clause-means
returns-clause-means c =
    finished_means (condition_scope c.args.wrapped) (wide.view c.args.e.now) (carried_view c.in_ok-carried.carried) _ _
    (sym c.in_ok-carried.ensures ∙ ap (λ (s : WideScope). translated s (wide.view c.args.e.now)) (outside c.args.wrapped))
    c.in_ok-finished.ensures
