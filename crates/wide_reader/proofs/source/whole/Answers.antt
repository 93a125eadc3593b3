-- Proof obligations of `whole` (src/source.rt).
use Rattle.wide_reader.proofs.Prelude.{sym}
use Rattle.wide_reader.proofs.Told.{told_none, told_ok, told_foreign, told_rest, told_fails, some_lexeme}
use Rattle.wide_reader.proofs.source.whole.Goals as goal

pub returns-in_default : goal.returns-in_default
returns-in_default c = rw (c.refused.ensures, c.misfit.ensures) (told_none c.args.text.now c.args.tokens.now c.in_default.ensures.word)

pub returns-in-Some-first : goal.returns-in-Some-first
returns-in-Some-first c =
    let reads = rw c.in-Ok.is at c.expression-read.ensures.reads in
    rw (c.refused-in-Some-first.ensures, c.misfit-in-Some-first.ensures) (told_rest c.args.text.now c.args.tokens.now c.in-Ok.rest.now _ _ _ reads c.in-Some-first.ensures.word)

pub returns-in-Err : goal.returns-in-Err
returns-in-Err c =
    let reads = rw c.in-Err.is at c.expression-read.ensures.reads in
    rw c.refused-in-Err.ensures (told_fails c.args.text.now c.args.tokens.now c.in-Err.refusal (some_lexeme c.args.text.now c.args.tokens.now _ _ c.in-Some.ensures.word) reads)

pub returns-in-None-unsupported : goal.returns-in-None-unsupported
returns-in-None-unsupported c =
    let reads = rw c.in-Ok.is at c.expression-read.ensures.reads in
    told_ok c.args.text.now c.args.tokens.now _ c.in-Ok.tree reads c.in-None.ensures.word (sym c.in-None-unsupported.ensures)

pub returns-in-Some-unsupported : goal.returns-in-Some-unsupported
returns-in-Some-unsupported c =
    let reads = rw c.in-Ok.is at c.expression-read.ensures.reads in
    told_foreign c.args.text.now c.args.tokens.now _ _ c.in-Some-unsupported.error reads c.in-None.ensures.word (sym c.in-Some-unsupported.ensures)
