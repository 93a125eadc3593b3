-- Loop invariants of `cluster::listing::read_lists`.
use Rattle.gatekeeper_runner.proofs.Prelude.{◌≡◌, map, string_bytes, take}
use Rattle.serde_json.specs.View.{view}
use Rattle.gatekeeper_runner.specs.Cluster.Starting.{HoldLists}
use Rattle.gatekeeper_runner.proofs.cluster.listing.read_lists.Given as goal

abbrev pub invariant-loop-name : goal.invariant-loop-name
invariant-loop-name g l = record {
  hold : HoldLists (g.F.ReadableFiles.known l.fn.files) (map string_bytes (take l.name-index l.names)) (map view l.lists.items);
  known : g.F.ReadableFiles.known l.files ≡ g.F.ReadableFiles.known l.fn.files;
}
