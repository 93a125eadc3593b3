-- Proof obligations of `rows_stand` (src/laws.rt).
use Rattle.std.specs.Fmt.{digits}
use Rattle.std.specs.Str.{is_utf8, chars}
use lib.Utf8.{encode}
use Rattle.helper_table.proofs.Prelude.{constants_of, start_memory, join_row, list_new_row, map_new_row, push_row, put_row, row_of, equal_row, less_row, member_row, starts_row, ends_row, contains_row, kind_row, int_of_row, int_new_row, text_const_row, text_of_int_row, not_row, field_row, has_row, index_row, size_row, item_row, count_row, of_number}
use Rattle.helper_table.proofs.laws.rows_stand.Goals as goal

pub returns : goal.returns
unfolding of_number row_of kind_row int_of_row int_new_row text_const_row text_of_int_row not_row field_row has_row index_row size_row item_row count_row equal_row less_row member_row starts_row ends_row contains_row join_row list_new_row map_new_row push_row put_row constants_of start_memory is_utf8 chars encode digits
returns c = search
