-- Proofs of `laws::timestamp_rows_hold`: each text computes.
use Rattle.std.proofs.Common.{rules}
use Rattle.text_numbers.specs.Numbers.{number_after}
use Rattle.timestamps.proofs.laws.timestamp_rows_hold.Goals as goal
use Rattle.timestamps.specs.Calendar.{day_number, days_of_months, is_day}
use Rattle.timestamps.specs.Timestamps.{day_of, fraction_of, minutes_at, offset_of, pair_at, seconds_of, timestamp_of}

pub returns : goal.returns
unfolding number_after day_number days_of_months is_day day_of fraction_of minutes_at offset_of pair_at seconds_of timestamp_of
returns c = search rules
