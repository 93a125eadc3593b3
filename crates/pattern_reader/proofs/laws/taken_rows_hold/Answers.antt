-- Proof obligations of `taken_rows_hold` (src/laws.rt).
use Rattle.std.proofs.Common.{refl}
use lib.Utf8.{encode}
use Rattle.pattern_reader.specs.Laws.{run}
use Rattle.pattern_reader.proofs.laws.taken_rows_hold.Goals as goal

pub returns : goal.returns
unfolding encode run
returns c = record {
  nothing = refl;
  a_letter = refl;
  a_digit = refl;
  repeated_lazily = refl;
  a_side_is_empty = refl;
  group_is_repeated = refl;
  brackets = refl;
  named_set = refl;
  end_of_text = refl;
  flag_at_start = refl;
}
