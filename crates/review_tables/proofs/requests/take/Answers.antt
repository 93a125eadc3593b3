-- Proofs of `requests::take`: the result meets the contract.

use Rattle.value_table.proofs.Prelude.{Some, sym, ◌∙◌}
use Rattle.review_tables.proofs.RequestReading.{take_some, take_none}
use Rattle.review_tables.proofs.requests.take.Goals as goal

pub returns-in-Some : goal.returns-in-Some
returns-in-Some c = λ ms are.
    take_some c.args.heap.now c.args.key.now c.args.found.now.entries c.remove.new.self.entries c.in-Some.member ms c.requires.heap (sym c.in-Some.is ∙ c.remove.ensures.value) c.remove.ensures.entries are

pub returns-in_ok-add_null-in-None : goal.returns-in_ok-add_null-in-None
returns-in_ok-add_null-in-None c = λ ms are.
    take_none c.args.heap.now c.add_null.new.heap c.args.key.now c.args.found.now.entries c.remove.new.self.entries (Some c.in_ok-add_null-in-None.field-0) ms c.in_ok-add_null-in-None.ensures (sym c.in-None.is ∙ c.remove.ensures.value) c.remove.ensures.entries are
