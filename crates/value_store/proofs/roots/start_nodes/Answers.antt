-- Proof obligations of `start_nodes` (src/roots.rt).
use Rattle.value_store.proofs.Prelude.{map, view}
use Rattle.value_store.proofs.Starting.{started}
use Rattle.value_store.proofs.roots.start_nodes.Goals as goal

pub loop-root-init : goal.loop-root-init
loop-root-init c = record {
  made = c.in_ok-nodes.ensures;
  welcome = (started (map view c.args.roots.now) c.requires).welcome;
}
