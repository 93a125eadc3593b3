-- Loop invariant of `ordering::names_of`.

use Rattle.gatekeeper_runner.proofs.Prelude.{◌≡◌, map, string_bytes, take}
use Rattle.gatekeeper_runner.proofs.ordering.names_of.Given as goal

abbrev pub invariant-loop-text : goal.invariant-loop-text
invariant-loop-text l = map string_bytes l.names.items ≡ map (λ s. s.now) (take l.text-index l.texts)
