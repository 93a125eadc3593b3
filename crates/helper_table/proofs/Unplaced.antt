-- The helpers that place nothing.
use Rattle.helper_table.proofs.Prelude.{arith, row_of, equal_row, less_row, member_row, starts_row, ends_row, contains_row, kind_row, int_of_row, not_row, OthersPlaceNothing, has_row, count_row}

pub others_place_nothing : OthersPlaceNothing
unfolding row_of kind_row int_of_row count_row not_row has_row equal_row less_row member_row starts_row ends_row contains_row
others_place_nothing h args vs constants e = grind arith
