-- Loop invariants of `checking::typing`.

use Rattle.cel_types.proofs.Prelude.{◌≡◌, ◌&&◌, drop, list_all, core_view, cores, core_entries, core_pair, core_typings, core_entry_typings, core_key_typings, scope_within, is_text_key, map_literal_row, typing_of, with_types}
use Rattle.std.specs.Prelude as list
use Rattle.cel_types.proofs.checking.+typing.Given as goal

abbrev pub invariant-parts_type-loop-part : goal.invariant-parts_type-loop-part
invariant-parts_type-loop-part l =
    let s = scope_within l.names l.variables in
    with_types (core_typings (cores (list.map core_view l.parts)) s) (typing_of l.last) ≡ with_types (core_typings (cores (list.map core_view (drop l.part-index l.parts))) s) (typing_of l.last)

abbrev pub invariant-entries_type-loop-key : goal.invariant-entries_type-loop-key
invariant-entries_type-loop-key l =
    let s = scope_within l.names l.variables in
    let all = core_entries (list.map core_pair l.pairs) in
    let rest = core_entries (list.map core_pair (drop l.key-index l.pairs)) in
    with_types (core_entry_typings all s) (map_literal_row (list_all is_text_key (core_key_typings all s))) ≡ with_types (core_entry_typings rest s) (map_literal_row (l.texts && list_all is_text_key (core_key_typings rest s)))
