-- Proofs of `lookup::place`: the result meets the contract.

use Rattle.value_table.proofs.Prelude.{sym, texts_of}
use Rattle.value_table.proofs.Lookups.{found_place, missing_place}
use Rattle.value_table.proofs.lookup.place.Goals as goal

pub returns-in-Ok : goal.returns-in-Ok
returns-in-Ok c = sym (found_place c.args.key.now (texts_of c.args.bytes.now c.args.keys.now) c.in-Ok.place c.requires.ordered c.in-Ok.ensures)

pub returns-in-Err : goal.returns-in-Err
returns-in-Err c = sym (missing_place c.args.key.now (texts_of c.args.bytes.now c.args.keys.now) c.in-Err.field-0 c.in-Err.ensures)
