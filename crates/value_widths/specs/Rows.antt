-- Values with their widths, worked out by hand.
use Rattle.std.specs.Prelude.{◌≡◌, pos, [], ◌∷◌, codes}
use Rattle.value_store.specs.Value.{Value, null, int, text, list, map, no_items, item, no_entries, entry}
use Rattle.value_widths.specs.Width.{width_of, widest}

-- [null]
abbrev pub null_list : Value
null_list = list (item null no_items)

-- [[null], "abc", 7]
abbrev pub three_items : Value
three_items = list (item null_list (item (text (codes "abc")) (item (int (pos 7)) no_items)))

-- {"a": [[null], "abc", 7], "b": null}
abbrev pub two_entries : Value
two_entries = map (entry (codes "a") three_items (entry (codes "b") null no_entries))

pub record WidthRowsHold : Type 0 where
  pub null_has_none : width_of null ≡ 0
  pub text_has_none : width_of (text (codes "abc")) ≡ 0
  pub empty_list : width_of (list no_items) ≡ 0
  pub empty_map : width_of (map no_entries) ≡ 0
  pub list_counts_items : width_of three_items ≡ 3
  pub map_counts_entries : width_of (map (entry (codes "a") null_list (entry (codes "b") null no_entries))) ≡ 2
  pub inner_list_is_wider : width_of two_entries ≡ 3
  pub outer_list_is_wider : width_of (list (item three_items (item null (item null (item null no_items))))) ≡ 4
  pub nothing_is_narrow : widest [] ≡ 0
  pub widest_of_two : widest (null_list ∷ two_entries ∷ []) ≡ 3
