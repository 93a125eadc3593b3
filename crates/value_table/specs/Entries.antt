-- A map with one more entry.
use Rattle.std.specs.Prelude.{Option, option_and_then}
use Rattle.value_store.specs.Value.{Value}
use Rattle.value_store.specs.Calls.{entries_part, put_of}
use Rattle.value_store.specs.Lookup.{text_part}
pub use Rattle.value_backings.specs.Ranges.{with_one}
pub use Rattle.value_backings.specs.Stored.{HoldsKeys}

-- the map m with one more entry: the key is the text k, the value is x
abbrev pub put_values : Value → Value → Value → Option Value
put_values m k x = option_and_then (λ es. option_and_then (λ key. put_of es key x) (text_part k)) (entries_part m)
