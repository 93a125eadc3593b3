-- Proof obligations of `teller::write_refused`.
use Rattle.std.proofs.Common.{codes, decimal}
use Rattle.line_answers.proofs.Prelude.{◌++◌, on_err_weaker, on_ok_weaker}
use Rattle.line_answers.proofs.OneLine.{err_so}
use Rattle.line_answers.proofs.Tells.{adds_both, part_behind, part_front}
use Rattle.line_answers.proofs.teller.write_refused.Goals as goal

pub returns-in_err-write_all-clause-part : goal.returns-in_err-write_all-clause-part
returns-in_err-write_all-clause-part g c =
    err_so c.from_residual.result _
    (part_front _ _ (codes "celbpf: line ") (decimal c.args.number ++ (codes ": " ++ c.args.answer.now)) c.in_err-write_all.ensures.part)

pub returns-in_err-write_all-2-clause-part : goal.returns-in_err-write_all-2-clause-part
returns-in_err-write_all-2-clause-part g c =
    err_so c.from_residual-in_err-write_all-2.result _
    (part_behind _ _ _ (codes "celbpf: line ") (decimal c.args.number ++ (codes ": " ++ c.args.answer.now)) c.in_ok-write_all.ensures.whole
    (part_front _ _ (decimal c.args.number) (codes ": " ++ c.args.answer.now)
    (rw (c.as_bytes.ensures.value, c.format.ensures.text) at c.in_err-write_all-2.ensures.part)))

pub returns-in_err-write_all-3-clause-part : goal.returns-in_err-write_all-3-clause-part
returns-in_err-write_all-3-clause-part g c =
    err_so c.from_residual-in_err-write_all-3.result _
    (part_behind _ _ _ (codes "celbpf: line ") (decimal c.args.number ++ (codes ": " ++ c.args.answer.now)) c.in_ok-write_all.ensures.whole
    (part_behind _ _ _ (decimal c.args.number) (codes ": " ++ c.args.answer.now)
    (rw (c.as_bytes.ensures.value, c.format.ensures.text) at c.in_ok-write_all-2.ensures.whole)
    (part_front _ _ (codes ": ") c.args.answer.now c.in_err-write_all-3.ensures.part)))

pub returns-clause-whole : goal.returns-clause-whole
returns-clause-whole g c =
    on_ok_weaker c.write_all-4.result
    (λ last.
    adds_both _ _ _ (codes "celbpf: line ") (decimal c.args.number ++ (codes ": " ++ c.args.answer.now)) c.in_ok-write_all.ensures.whole
    (adds_both _ _ _ (decimal c.args.number) (codes ": " ++ c.args.answer.now)
    (rw (c.as_bytes.ensures.value, c.format.ensures.text) at c.in_ok-write_all-2.ensures.whole)
    (adds_both _ _ _ (codes ": ") c.args.answer.now c.in_ok-write_all-3.ensures.whole last)))
    c.write_all-4.ensures.whole

pub returns-clause-part : goal.returns-clause-part
returns-clause-part g c =
    on_err_weaker c.write_all-4.result
    (λ last.
    part_behind _ _ _ (codes "celbpf: line ") (decimal c.args.number ++ (codes ": " ++ c.args.answer.now)) c.in_ok-write_all.ensures.whole
    (part_behind _ _ _ (decimal c.args.number) (codes ": " ++ c.args.answer.now)
    (rw (c.as_bytes.ensures.value, c.format.ensures.text) at c.in_ok-write_all-2.ensures.whole)
    (part_behind _ _ _ (codes ": ") c.args.answer.now c.in_ok-write_all-3.ensures.whole last)))
    c.write_all-4.ensures.part
