-- Proof obligations of `rows_stand` (src/laws.rt).
unfoldable use Rattle.cel_macros.specs.Environment.{is_root}
unfoldable use Rattle.wide_meaning.specs.Functions.{function_named, method_named, text_method, optional_method}
unfoldable use Rattle.wide_meaning.specs.Functions.{list_method, item_method, items_method, optional_named, sets_named, qualified_named}
unfoldable use Rattle.wide_translation.specs.Translated.{translated}
unfoldable use Rattle.wide_translation.specs.Uses.{uses, any_uses, items_use, entries_use}
use Rattle.wide_translation.proofs.laws.rows_stand.Goals as goal

pub returns : goal.returns
unfolding is_root function_named method_named text_method optional_method list_method item_method items_method optional_named sets_named qualified_named translated uses any_uses items_use entries_use
returns c = search
