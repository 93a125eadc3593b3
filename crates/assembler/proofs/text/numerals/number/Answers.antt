-- Proof obligations of `number` (src/text/numerals.rt).
use Rattle.assembler.proofs.Prelude.{w32}
use Rattle.assembler.proofs.Forms.{number_read, number_refused, parse_number}
use Rattle.assembler.proofs.text.numerals.number.Goals as goal

pub returns-in-Ok : goal.returns-in-Ok
returns-in-Ok c = λ z e. number_read w32 z c.in-Ok.number c.parse.result c.in-Ok.is (parse_number w32 z c.args.text.now c.parse.result e c.parse.ensures.value.0)

pub returns-in-Err : goal.returns-in-Err
returns-in-Err c = λ z e. number_refused w32 z c.in-Err.field-0 c.parse.result c.in-Err.is (parse_number w32 z c.args.text.now c.parse.result e c.parse.ensures.value.0)
