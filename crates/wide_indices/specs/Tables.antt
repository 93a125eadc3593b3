-- The table of indices, and how long it has to be.
use Rattle.std.specs.Prelude.{ℕ, max, [], ◌∷◌}
use Rattle.value_store.specs.Value.{Value, list, map, items_of, entry, no_entries}
use Rattle.value_widths.specs.Width.{widest}
use Rattle.cel_macros.specs.Environment.{Roots}
use Rattle.wide_translation.specs.Indexed.{ints_from}
use Rattle.wide_translation.specs.Names.{indices_field}
use Rattle.wide_widths.specs.Narrow.{literal_limit}

-- {"n": [0, 1, ..]}, with m ints
abbrev pub index_tables : ℕ → Value
index_tables m = map (entry indices_field (list (items_of (ints_from 0 m))) no_entries)

-- the number of ints that suffices for these documents: a literal may have so many items, or a document be so wide
abbrev pub table_length : Roots → ℕ
table_length r = max literal_limit (widest (r.object ∷ r.old_object ∷ r.params ∷ r.namespace_object ∷ r.request ∷ []))
