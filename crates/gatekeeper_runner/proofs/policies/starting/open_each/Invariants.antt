-- Loop invariant of `policies::starting::open_each`.

use Rattle.gatekeeper_runner.proofs.Prelude.{◌≡◌, Ok, map, string_bytes, take, GatesFrom}
use Rattle.gatekeeper_runner.proofs.policies.starting.open_each.Given as goal

abbrev pub invariant-loop-name : goal.invariant-loop-name
invariant-loop-name g l = record {
  opened : GatesFrom (g.F.ReadableFiles.known l.fn.files) l.language (map string_bytes (take l.name-index l.names)) (Ok l.gates);
  known : g.F.ReadableFiles.known l.files ≡ g.F.ReadableFiles.known l.fn.files;
}
