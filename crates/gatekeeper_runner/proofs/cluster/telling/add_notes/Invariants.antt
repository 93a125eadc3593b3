-- Loop invariants of `cluster::telling::add_notes`.
use Rattle.gatekeeper_runner.proofs.Prelude.{◌≡◌, ◌++◌, take}
use Rattle.gatekeeper_runner.specs.Cluster.Telling.{note_lines}
use Rattle.gatekeeper_runner.proofs.cluster.telling.add_notes.Given as goal

abbrev pub invariant-loop-note : goal.invariant-loop-note
invariant-loop-note l = l.text.items ≡ l.fn.text.items ++ note_lines l.name (take l.note-index l.notes)
