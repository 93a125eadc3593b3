-- Proof obligations of `answering::answer_of`.
use Rattle.line_answers.proofs.Prelude.{◌∙◌, ◌≤◌, ◌<◌, arith, length, sym, IfOk-weaker}
use Rattle.line_answers.proofs.OneLine.{is_decided, is_long, is_passed}
use Rattle.line_answers.proofs.answering.answer_of.Goals as goal

pub returns-then-line-max_line : goal.returns-then-line-max_line
returns-then-line-max_line g c =
    let above : c.args.max_line < length c.args.line.now = grind arith in
    IfOk-weaker c.with_line_feed.result _ _
    (λ text is some. is_long c.args.max_line _ _ c.args.line.now _ _ above is c.in_ok-refusal.ensures)
    c.with_line_feed.ensures

pub returns-then-is_blank : goal.returns-then-is_blank
returns-then-is_blank g c some =
    let short : length c.args.line.now ≤ c.args.max_line = grind arith in
    is_passed c.args.max_line _ _ c.args.line.now _ short (sym c.is_blank.ensures ∙ c.if-is_blank.true) c.new.ensures.items

pub returns : goal.returns
returns g c =
    let short : length c.args.line.now ≤ c.args.max_line = grind arith in
    IfOk-weaker c.with_line_feed-2.result _ _
    (λ text is some. is_decided c.args.max_line _ _ c.args.line.now _ _ short (sym c.is_blank.ensures ∙ c.if-is_blank.false) is c.in_ok-answer.ensures)
    c.with_line_feed-2.ensures
