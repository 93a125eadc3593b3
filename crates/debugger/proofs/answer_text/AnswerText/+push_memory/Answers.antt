-- Proof obligations of the functions of the cycle `AnswerText::push_memory` (src/answer_text.rt).
use Rattle.debugger.proofs.Prelude.{arith, refl, rules}
use Rattle.debugger.proofs.MemoryLines.{lines_first, lines_none, lines_one, some_bytes}
use Rattle.debugger.proofs.answer_text.AnswerText.+push_memory.Goals as goal

pub returns-then-is_empty : goal.returns-then-is_empty
returns-then-is_empty t c = λ count enough. lines_none count _ _ _ (search rules)

pub returns-then-bytes-le16 : goal.returns-then-bytes-le16
returns-then-bytes-le16 t c = λ count enough. lines_one count _ _ _ _ (some_bytes _ (search rules)) c.if-bytes-le16.true enough c.push_memory_line.ensures.text

pub returns : goal.returns
returns t c = λ count enough. lines_first count _ _ _ _ _ _ _
    (record {
      front = c.split_at.result.0.now;
      many = omega (arith, c.if-bytes-le16.false);
      fits = omega (arith, c.ranges.address.fits);
      wraps = refl;
      front_is = c.split_at.ensures.front;
      rest_is = c.split_at.ensures.back;
      line = c.push_memory_line-2.ensures.text;
    })
    enough c.push_memory.ensures
