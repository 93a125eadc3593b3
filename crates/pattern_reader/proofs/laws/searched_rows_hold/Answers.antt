-- Proof obligations of `searched_rows_hold` (src/laws.rt).
use Rattle.pattern_reader.proofs.Searched.{searched_rows}
use Rattle.pattern_reader.proofs.laws.searched_rows_hold.Goals as goal

pub returns : goal.returns
returns c = searched_rows
