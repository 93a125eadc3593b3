-- Proof obligations of `rows_stand` (src/laws.rt).
unfoldable use Rattle.wide_meaning.specs.Functions.{function_named, method_named, text_method, optional_method}
unfoldable use Rattle.wide_meaning.specs.Functions.{list_method, item_method, items_method, optional_named, sets_named, qualified_named}
unfoldable use Rattle.wide_translation.specs.Uses.{uses}
unfoldable use Rattle.wide_widths.specs.Narrow.{is_narrow, is_scalar}
unfoldable use Rattle.wide_indices.specs.Narrow.{has_narrow_ranges}
use Rattle.wide_indices.proofs.laws.rows_stand.Goals as goal

pub returns : goal.returns
unfolding function_named method_named text_method optional_method list_method item_method items_method optional_named sets_named qualified_named uses is_narrow is_scalar has_narrow_ranges
returns c = search
