-- Loop invariant of `push_all` (src/writer.rt).
use Rattle.std.proofs.Common.{◌≡◌, ◌++◌, take, string_bytes}
use Rattle.std.specs.List.{flat_map}
use Rattle.pattern_reader.specs.Written.{item_text}
use Rattle.pattern_reader.proofs.writer.push_all.Given as goal

abbrev pub invariant-loop-item : goal.invariant-loop-item
invariant-loop-item l = string_bytes l.out ≡ string_bytes l.initial.out ++ flat_map (item_text l.dot_all) (take l.item-index l.items)
