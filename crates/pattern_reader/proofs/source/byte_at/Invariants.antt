-- Loop invariant of `byte_at` (src/source.rt).
use Rattle.std.proofs.Common.{◌≡◌, ◌≤◌, ◌*◌, length, take}
use Rattle.std.specs.Str.{encode_utf8_all}
use Rattle.pattern_reader.proofs.source.byte_at.Given as goal

abbrev pub invariant-loop-c : goal.invariant-loop-c
invariant-loop-c l = record {
  so_far : l.bytes ≡ length (encode_utf8_all (take l.c-index l.c-items));
  small : l.bytes ≤ 4 * l.c-index;
}
