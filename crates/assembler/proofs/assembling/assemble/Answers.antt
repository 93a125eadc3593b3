-- Proof obligations of `assemble` (src/assembling.rt).
use Rattle.assembler.proofs.Sources.{answered, first_refused, labels_fit, only_answer}
use Rattle.assembler.proofs.assembling.assemble.Goals as goal

pub emit-requires-clause-labels : goal.emit-requires-clause-labels
emit-requires-clause-labels c = labels_fit _ c.in-Ok.scanned c.in-Ok.ensures

pub returns-in-Err-clause-answers : goal.returns-in-Err-clause-answers
returns-in-Err-clause-answers c = first_refused c.args.text.now c.in-Err.error c.in-Err.ensures

pub returns-clause-answers : goal.returns-clause-answers
returns-clause-answers c = answered c.args.text.now c.in-Ok.scanned _ c.emit.result c.as_slice.ensures.value c.in-Ok.ensures c.emit.ensures.emits c.emit.ensures.some

pub returns-clause-only : goal.returns-clause-only
returns-clause-only c = only_answer c.args.text.now c.in-Ok.scanned _ c.emit.result c.as_slice.ensures.value c.in-Ok.ensures c.emit.ensures.emits
