-- Proof obligations of `rows_stand` (src/laws.rt).
use Rattle.std.specs.Fmt.{digits}
unfoldable use Rattle.wide_meaning.specs.Functions.{function_named, method_named, text_method, optional_method, list_method, item_method, items_method, optional_named, sets_named, qualified_named}
unfoldable use Rattle.wide_meaning.specs.Meaning.{wide_meaning}
use Rattle.wide_meaning.proofs.laws.rows_stand.Goals as goal

pub returns : goal.returns
unfolding digits function_named method_named text_method optional_method list_method item_method items_method optional_named sets_named qualified_named wide_meaning
returns c = search
