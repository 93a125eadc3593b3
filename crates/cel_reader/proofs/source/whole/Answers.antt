-- Proof obligations of `whole` (src/source.rt).
use Rattle.cel_reader.proofs.Told.{told_none, told_ok, told_rest, told_fails, some_word}
use Rattle.cel_reader.proofs.Places.{placed_none, placed_rest, placed_fails}
use Rattle.cel_reader.proofs.source.whole.Goals as goal

pub returns-in_default : goal.returns-in_default
returns-in_default c = rw (c.placed.ensures, c.misfit.ensures) (record {
  told = told_none _ c.in_default.ensures.word;
  places = placed_none c.args.text.now c.args.tokens.now c.in_default.ensures.word;
})

pub returns-in-None : goal.returns-in-None
returns-in-None c = record {
  told = told_ok _ _ _ c.in-Ok.ensures.reads c.in-None.ensures.word;
  places = tt;
}

pub returns-in-Some-first : goal.returns-in-Some-first
returns-in-Some-first c = rw (c.placed-in-Some-first.ensures, c.misfit-in-Some-first.ensures) (record {
  told = told_rest _ _ _ _ _ c.in-Ok.ensures.reads c.in-Some-first.ensures.word;
  places = placed_rest c.args.text.now c.args.tokens.now c.in-Ok.rest.now _ _ _ c.in-Ok.ensures.reads c.in-Some-first.ensures.word;
})

pub returns-in-Err : goal.returns-in-Err
returns-in-Err c = rw c.placed-in-Err.ensures (record {
  told = told_fails _ _ _ c.in-Err.refusal (some_word _ _ _ c.in-Some.ensures.word) c.in-Err.ensures.reads;
  places = placed_fails c.args.text.now c.args.tokens.now c.in-Err.refusal c.in-Err.ensures.reads;
})
