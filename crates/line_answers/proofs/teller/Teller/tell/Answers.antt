-- Proof obligations of `teller::Teller::tell`.
use Rattle.line_answers.proofs.Prelude.{sym, ◌∙◌}
use Rattle.line_answers.proofs.Tells.{told_cut, told_one}
use Rattle.line_answers.proofs.teller.Teller.tell.Goals as goal

pub returns-in-Ok-clause-tells : goal.returns-in-Ok-clause-tells
returns-in-Ok-clause-tells g c start text counts =
    told_one _ start _ _ text c.args.answer.now _ c.args.self.now.count c.if-self.false (sym c.is_refusal.ensures ∙ c.if-not-is_refusal.false) (c.after-self.ensures counts)
    c.in-Ok.ensures.whole c.in-Ok.ensures.ok

pub returns-in-Err-clause-tells : goal.returns-in-Err-clause-tells
returns-in-Err-clause-tells g c start text counts =
    told_cut _ start _ _ text c.args.answer.now _ c.args.self.now.count c.if-self.false (sym c.is_refusal.ensures ∙ c.if-not-is_refusal.false) (c.after-self.ensures counts)
    c.in-Err.ensures.part c.in-Err.ensures.err
