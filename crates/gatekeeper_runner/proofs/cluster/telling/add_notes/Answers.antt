-- Proof obligations of `cluster::telling::add_notes`.
use Rattle.gatekeeper_runner.proofs.Prelude.{append-nil, sym}
use Rattle.gatekeeper_runner.proofs.OfClusters.Noted.{noted_all, noted_more}
use Rattle.gatekeeper_runner.proofs.cluster.telling.add_notes.Goals as goal

pub loop-note-init : goal.loop-note-init
loop-note-init c = sym (append-nil _)

pub loop-note-preserved : goal.loop-note-preserved
loop-note-preserved c = noted_more _ _ _ _ _ c.loop-note.invariant c.note-item.result _ c.loop-note-test.true c.note-item.is c.in_ok-add_note.ensures

pub returns : goal.returns
returns c = noted_all _ _ _ _ _ c.loop-note.invariant c.loop-note-test.false
