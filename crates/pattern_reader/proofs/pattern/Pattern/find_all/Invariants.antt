-- Loop invariant of `Pattern::find_all` (src/pattern.rt).
use Rattle.std.proofs.Common.{◌≡◌, map}
use Rattle.regex.specs.Strings.{match_span}
use Rattle.pattern_reader.proofs.pattern.Pattern.find_all.Given as goal

abbrev pub invariant-loop-found : goal.invariant-loop-found
invariant-loop-found l = l.spans.items ≡ map match_span l.yielded
