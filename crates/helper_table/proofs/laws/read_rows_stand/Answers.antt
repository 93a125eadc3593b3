-- Proof obligations of `read_rows_stand` (src/laws.rt).
use lib.Count.{count_leading_zeros}
use Rattle.std.specs.Fmt.{digits}
use Rattle.value_store.proofs.Prelude.{escape_byte}
use Rattle.helper_table.proofs.Prelude.{constants_of, start_memory, of_number}
use Rattle.helper_table.specs.Reads.{contains_reads, end_reads, equal_reads, index_reads, join_reads, key_reads, less_reads, member_reads, put_reads, reads_by, size_reads, text_const_reads}
use Rattle.helper_table.proofs.laws.read_rows_stand.Goals as goal

pub returns : goal.returns
unfolding of_number reads_by text_const_reads key_reads index_reads size_reads equal_reads less_reads join_reads end_reads contains_reads member_reads put_reads constants_of start_memory escape_byte digits count_leading_zeros
returns c = search
