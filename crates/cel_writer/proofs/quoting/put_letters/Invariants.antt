-- Loop invariant of `quoting::put_letters`.
use Rattle.std.proofs.Common.{◌≡◌, ◌++◌, string_bytes}
use Rattle.std.specs.List.{flat_map}
use Rattle.cel_writer.specs.Printed.{letter_text}
use Rattle.cel_writer.proofs.quoting.put_letters.Given as goal

abbrev pub invariant-loop-c : goal.invariant-loop-c
invariant-loop-c l = string_bytes l.out ≡ string_bytes l.initial.out ++ flat_map letter_text l.yielded
