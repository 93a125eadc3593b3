-- Proof obligations of `refused_rows_hold` (src/laws.rt).
use Rattle.std.proofs.Common.{refl}
use lib.Utf8.{encode}
use Rattle.pattern_reader.specs.Laws.{run}
use Rattle.pattern_reader.proofs.laws.refused_rows_hold.Goals as goal

pub returns : goal.returns
unfolding encode run
returns c = record {
  flags_inside = refl;
  brace_without_count = refl;
  zero_before_a_digit = refl;
  count_too_great = refl;
  counts_in_wrong_order = refl;
  nested_counts_too_great = refl;
  repeated_twice = refl;
  edge_repeated = refl;
  nothing_to_repeat = refl;
  closing_bracket_first = refl;
  bracket_in_brackets = refl;
  intersection = refl;
  difference = refl;
  symmetric_difference = refl;
  dash_between = refl;
  property = refl;
  hex = refl;
  quotation = refl;
  no_boundary = refl;
  many_lines = refl;
  negated_name = refl;
  folded_above_ascii = refl;
  not_folded_above_ascii = refl;
  open_group = refl;
  closed_too_often = refl;
  open_brackets = refl;
  empty_is_repeated = refl;
}
