-- Proof obligation of `entries::of_text`.
use Rattle.std.proofs.Common.{string_bytes, subst, sym}
use Rattle.wide_translation.specs.declared.carried.Carried.{Carried}
use Rattle.wide_translation.specs.Declarations.{ReturnsEntryPart, carried_view}
use Rattle.wide_translation.specs.Parts.{optional_more}
use Rattle.wide_translation.proofs.entries.of_text.Goals as goal

pub returns-in-Listed : goal.returns-in-Listed
returns-in-Listed c =
    subst (λ (v : Carried). ReturnsEntryPart (optional_more (string_bytes c.args.field) (carried_view v)) c.of_list.result)
    (sym c.in-Listed.is) (c.of_list.ensures c.in-Listed.field-0)
