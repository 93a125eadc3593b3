-- Proofs of `order::compare_identifiers`: numbers are compared by their size.
use Rattle.std.proofs.Common.{◌∙◌, sym}
use Rattle.versions.proofs.Comparing.{both_numbers}
use Rattle.versions.proofs.order.compare_identifiers.Goals as goal

pub returns-then-is_numeric-2 : goal.returns-then-is_numeric-2
returns-then-is_numeric-2 c =
    both_numbers c.args.a.now c.args.b.now c.digits_number.result c.digits_number-then-is_numeric-2.result c.cmp.result
    (sym c.is_numeric.ensures ∙ c.if-is_numeric.true) (sym c.is_numeric-then-is_numeric.ensures ∙ c.if-is_numeric-2.true)
    c.requires.first c.requires.second c.digits_number.ensures c.digits_number-then-is_numeric-2.ensures c.cmp.ensures
