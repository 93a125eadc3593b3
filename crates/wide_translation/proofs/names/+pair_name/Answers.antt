-- Proof obligation of `pair_name` (src/names.rt).
use Rattle.std.proofs.Common.{◌∙◌, ap, sym, ℕ, List, [], ◌∷◌, ◌++◌, length}
use Rattle.wide_translation.specs.Declarations.{scope_in}
use Rattle.wide_translation.specs.Names.{pair_name}
use Rattle.wide_translation.specs.Scope.{WideScope}
use Rattle.wide_translation.proofs.PairNames.{longer, inside}
use Rattle.wide_translation.proofs.names.+pair_name.Goals as goal

pub returns-in_ok-push_str-in-Within : goal.returns-in_ok-push_str-in-Within
returns-in_ok-push_str-in-Within t c =
    c.in_ok-push_str-in-Within.ensures.bytes
    ∙ ap (λ (x : List ℕ). x ++ 112 ∷ []) c.in_ok-name-in-Within.ensures
    ∙ longer (length (scope_in c.in-Within.outer.now).names)
    ∙ ap (λ (s : WideScope). pair_name (length s.names)) (sym (ap scope_in c.in-Within.is ∙ inside c.in-Within.field-0 c.in-Within.field-1 c.in-Within.outer))
