-- Proof obligations of `rows_stand` (src/laws.rt).
use Rattle.value_store.proofs.Prelude.{arith}
use Rattle.std.specs.Fmt.{digits}
use Rattle.std.specs.List.Sorted.{IsStrictlySortedBy}
use Rattle.json.specs.Print.{escape_byte}
use Rattle.value_store.proofs.laws.rows_stand.Goals as goal

pub returns : goal.returns
unfolding escape_byte digits IsStrictlySortedBy
returns c = grind arith
