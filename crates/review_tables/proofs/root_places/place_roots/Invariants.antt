-- Loop invariant of `root_places::place_roots`.

use Rattle.value_table.proofs.Prelude.{◌≡◌, ◌+◌, List, drop, heap_values}
use Rattle.serde_json.specs.Data as json
use Rattle.value_table.specs.References.{AreReferences}
use Rattle.review_tables.specs.RootPlaces.{ArePlacedValues, AreSoundPlaces}
use Rattle.review_tables.proofs.RootsInOrder.{Opening}
use Rattle.review_tables.proofs.root_places.place_roots.Given as goal

abbrev pub invariant-loop-given : goal.invariant-loop-given
invariant-loop-given l = record {
  reference : l.reference ≡ 4 + l.given-index;
  references : AreReferences l.heap l.places;
  sound : AreSoundPlaces (heap_values l.heap) (drop l.given-index l.roots);
  opening : (ds : List json.Data) → ArePlacedValues (heap_values l.heap) l.roots ds → Opening l.heap (drop l.given-index l.roots) l.places l.reference l.charge ds;
}
