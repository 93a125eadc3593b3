-- Proof obligations of `next_line` (src/passes/cutting.rt).
use Rattle.assembler.proofs.Prelude.{lit<, split_once_first}
use Rattle.assembler.proofs.FirstLine.{first_line, last_line}
use Rattle.assembler.proofs.passes.cutting.next_line.Goals as goal

pub returns-clause-found : goal.returns-clause-found
returns-clause-found c =
    let split = split_once_first 10 c.args.text.now c.split_once.result c.split_once.ensures.cases (lit< tt) in
    let at = rw c.in-Some.is at split in
    first_line c.args.text.now c.in-Some.line.now c.in-Some.rest.now at.0 at.1 at.2

pub returns-in_default-clause-found : goal.returns-in_default-clause-found
returns-in_default-clause-found c =
    let split = split_once_first 10 c.args.text.now c.split_once.result c.split_once.ensures.cases (lit< tt) in
    let at = rw c.in_default.is at split in
    last_line c.args.text.now at c.if-is_empty.ensures
