-- Proof obligations of the functions of the cycle `same` (src/same.rt).
use Rattle.std.proofs.Common.{◌≢◌, arith, length, sym}
use Rattle.cel_writer.proofs.Compared.{maps_same, other_entries}
use Rattle.cel_writer.proofs.same.+same.Goals as goal

pub are_same_entries-returns-then-a-b : goal.are_same_entries-returns-then-a-b
are_same_entries-returns-then-a-b t c =
    let n : length c.args.a.now ≢ length c.args.b.now = grind arith in
    sym (other_entries c.args.a.now c.args.b.now n)

pub is_same-returns-in-Map-Map : goal.is_same-returns-in-Map-Map
is_same-returns-in-Map-Map t c =
    maps_same c.args.a.now c.args.b.now c.in-Map-Map.x c.in-Map-Map.y c.as_slice-in-Map-Map.result.now c.as_slice-in-Map-Map-2.result.now c.are_same_entries.result
    c.in-Map-Map.is-0 c.in-Map-Map.is-1 c.as_slice-in-Map-Map.ensures.value c.as_slice-in-Map-Map-2.ensures.value c.are_same_entries.ensures
