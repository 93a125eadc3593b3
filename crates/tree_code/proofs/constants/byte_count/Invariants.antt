-- Loop invariant of `constants::byte_count`.

use Rattle.tree_code.proofs.Prelude.{◌≡◌, ◌+◌, map, drop, length, string_bytes, saturated, joined}
use Rattle.tree_code.proofs.constants.byte_count.Given as goal

abbrev pub invariant-loop-text : goal.invariant-loop-text
invariant-loop-text l = record {
  fits : l.total ≡ saturated l.total;
  so_far : saturated (length (joined (map string_bytes l.texts))) ≡ saturated (l.total + length (joined (map string_bytes (drop l.text-index l.texts))));
}
