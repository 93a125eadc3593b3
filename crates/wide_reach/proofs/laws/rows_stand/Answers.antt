-- Proof obligations of `rows_stand` (src/laws.rt).
use Rattle.std.specs.Fmt.{digits}
unfoldable use Rattle.wide_meaning.specs.Functions.{function_named, method_named, text_method, optional_method}
unfoldable use Rattle.wide_meaning.specs.Functions.{list_method, item_method, items_method, optional_named, sets_named, qualified_named}
unfoldable use Rattle.wide_reach.specs.Known.{has_reach}
unfoldable use Rattle.wide_reach.specs.Ranges.{reach}
use Rattle.wide_reach.proofs.laws.rows_stand.Goals as goal

pub returns : goal.returns
unfolding digits function_named method_named text_method optional_method list_method item_method items_method optional_named sets_named qualified_named has_reach reach
returns c = search
