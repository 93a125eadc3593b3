-- Proofs of `heap::Heap::shape`: the result meets the contract; its calls meet their requirements.

use Rattle.value_table.proofs.Prelude.{heap_values}
use Rattle.value_table.proofs.Looked.{range_here, map_here, seen_list, seen_map}
use Rattle.value_table.proofs.heap.Heap.shape.Goals as goal

pub count-requires : goal.count-requires
count-requires c = range_here c.args.self.now.backings c.args.self.now.cells c.args.place c.in-List.backing c.in-List.count c.cell.result c.cell.ensures.found c.in-List.is

pub count-requires-in-Map : goal.count-requires-in-Map
count-requires-in-Map c = map_here c.args.self.now.backings c.args.self.now.cells c.args.place c.in-Map.field-0 c.in-Map.backing c.in-Map.count c.cell.result c.cell.ensures.found c.in-Map.is

pub returns-in-List-clause-shape : goal.returns-in-List-clause-shape
returns-in-List-clause-shape c =
    seen_list c.args.self.now.backings (heap_values c.args.self.now) c.args.place c.in-List.backing c.in-List.count c.count.result c.cell.result c.cell.ensures.found c.in-List.is c.count.ensures.count

pub returns-in-Map-clause-shape : goal.returns-in-Map-clause-shape
returns-in-Map-clause-shape c =
    seen_map c.args.self.now.backings (heap_values c.args.self.now) c.args.place c.in-Map.field-0 c.in-Map.backing c.in-Map.count c.count-in-Map.result c.cell.result c.cell.ensures.found c.in-Map.is c.count-in-Map.ensures.count
