-- Proofs of `line::Line::extend`: the result meets the contract; no arithmetic overflows.

use Rattle.std.proofs.Common.{rules}
use Rattle.line_answers.proofs.Prelude.{◌≡◌, ◌∙◌, arith, length, ltb-false, sym}
use Rattle.line_answers.proofs.OneLine.{keeps_more}
use Rattle.line_answers.proofs.line.Line.extend.Goals as goal

pub overflow_sub-room : goal.overflow_sub-room
overflow_sub-room c = let short = ltb-false _ _ (sym c.is_too_long.ensures ∙ c.if-is_too_long.false) in omega (arith, short, c.len.ensures)

pub returns-in-Ok : goal.returns-in-Ok
returns-in-Ok c most line keeps =
    let size : c.len.result ≡ length c.args.self.now.bytes.items = search rules in
    let below = ltb-false c.args.self.now.most (length c.args.self.now.bytes.items) (sym c.is_too_long.ensures ∙ c.if-is_too_long.false) in
    record {
      most_is = keeps.most_is;
      kept = keeps_more most c.args.self.now.lacks c.args.self.now.bytes.items _ line c.args.part.now _ _ c.if-self.false keeps.kept size (omega (arith, below, keeps.most_is))
          (rw keeps.most_is at c.front.ensures) c.in-Ok.ensures.items;
    }
