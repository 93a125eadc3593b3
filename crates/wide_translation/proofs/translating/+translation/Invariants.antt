-- Loop invariants of the functions of the cycle `translation` (src/translating.rt).
use Rattle.std.proofs.Common.{◌≡◌, drop, map}
use Rattle.wide_reader.specs.Tree as wide
use Rattle.wide_translation.specs.Declarations.{scope_in}
use Rattle.wide_translation.specs.Segments.{after_parts, entries_more}
unfoldable use Rattle.wide_translation.specs.Translated.{items_translated, entries_translated}
use Rattle.wide_translation.proofs.translating.+translation.Given as goal

-- what the items from here on are decides what all are
abbrev pub invariant-items-loop-access : goal.invariant-items-loop-access
invariant-items-loop-access l =
    items_translated (scope_in l.names) (wide.items (map wide.item_view l.given))
    ≡ after_parts l.parts (items_translated (scope_in l.names) (wide.items (map wide.item_view (drop l.access-index l.given))))

abbrev pub invariant-pairs-loop-access : goal.invariant-pairs-loop-access
invariant-pairs-loop-access l =
    entries_translated (scope_in l.names) (wide.entries (map wide.entry_view l.given))
    ≡ entries_more l.out.items (entries_translated (scope_in l.names) (wide.entries (map wide.entry_view (drop l.access-index l.given))))
