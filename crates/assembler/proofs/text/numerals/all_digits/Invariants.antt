-- Loop invariants of `all_digits` (src/text/numerals.rt).
use Rattle.assembler.proofs.Prelude.{◌≡◌, drop, all_ascii_digits}
use Rattle.assembler.proofs.text.numerals.all_digits.Given as goal

abbrev pub invariant-loop-byte : goal.invariant-loop-byte
invariant-loop-byte l = all_ascii_digits (drop l.byte-index l.bytes) ≡ all_ascii_digits l.bytes
