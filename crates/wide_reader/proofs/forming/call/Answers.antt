-- Proof obligations of `call` (src/forming.rt).
use Rattle.wide_reader.proofs.Prelude.{◌≡◌, List, map, true, sym, ◌∙◌, subst, CodeWide, view, wides}
use Rattle.wide_reader.specs.Shapes.{is_selection}
use Rattle.wide_reader.proofs.Formed.{has_selection}
use Rattle.wide_reader.proofs.forming.call.Goals as goal

pub has-requires : goal.has-requires
has-requires c =
    has_selection c.args.arguments.items (subst (λ (xs : List CodeWide). is_selection (wides (map view xs)) ≡ true) c.as_slice.ensures.value
    (sym c.is_selection.ensures ∙ c.if-is_selection.true))
