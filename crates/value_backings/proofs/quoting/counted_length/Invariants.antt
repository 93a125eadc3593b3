-- Loop invariant of `quoting::counted_length`.

use Rattle.value_backings.proofs.Prelude.{◌≡◌, ◌≤◌, ◌+◌, length, take, escape, saturated}
use Rattle.value_backings.proofs.quoting.counted_length.Given as goal

abbrev pub invariant-loop-byte : goal.invariant-loop-byte
invariant-loop-byte l = record {
  counted : l.length ≡ saturated (2 + length (escape (take l.byte-index l.text)));
  end : l.byte-index-end ≡ length l.text;
  within : l.byte-index ≤ length l.text;
}
