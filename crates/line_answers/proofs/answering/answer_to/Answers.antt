-- Proof obligations of `answering::answer_to`.
use Rattle.line_answers.proofs.Prelude.{arith}
use Rattle.line_answers.proofs.OneLine.{answer_or_none, is_nothing}
use Rattle.line_answers.proofs.answering.answer_to.Goals as goal

pub returns-then-is_empty : goal.returns-then-is_empty
returns-then-is_empty g c = is_nothing _ _ _ c.args.line.now _ (grind arith) c.new.ensures.items

pub returns : goal.returns
returns g c = answer_or_none _ _ _ c.answer_of.result c.args.line.now (grind arith) c.answer_of.ensures
