-- Proof obligations of `read` (src/source.rt).
use Rattle.cel_reader.proofs.Prelude.{Err, ap, arith, err_from_is_err_and}
use Rattle.cel_reader.proofs.Told.{only_of, told_text, told_at, tokens_fail, tokens_placed, placed_text, same_error, no_error}
use Rattle.cel_reader.proofs.WellFormedTrees.{told_formed}
use Rattle.cel_reader.proofs.source.read.Goals as goal

pub returns-in_err-tokens : goal.returns-in_err-tokens
returns-in_err-tokens c =
    let p = err_from_is_err_and c.from_residual.result c.from_residual.ensures.1 in
    let t = tokens_fail c.args.text.now c.in_err-tokens.field-0.0 c.in_err-tokens.ensures.answers in
    rw (p.1, p.2) (record {
      answers = t;
      places = tokens_placed c.args.text.now c.in_err-tokens.field-0.0 c.in_err-tokens.ensures.answers;
      long = λ h. ap Err (same_error _ _ (c.in_err-tokens.ensures.long h));
      well_formed = tt;
      only = only_of c.args.text.now (Err c.in_err-tokens.field-0.0) t;
    })

pub returns : goal.returns
returns c =
    let told = told_at c.args.text.now _ c.in_ok-tokens.tokens.items _ c.whole.result c.as_bytes.ensures.value c.deref.ensures.value c.whole.ensures.told in
    let t = told_text c.args.text.now c.in_ok-tokens.tokens.items c.whole.result c.in_ok-tokens.ensures.answers told in
    record {
      answers = t;
      places = grind (arith, placed_text);
      long = λ h. no_error _ _ (c.in_ok-tokens.ensures.long h);
      well_formed = told_formed c.args.text.now c.in_ok-tokens.tokens.items c.whole.result c.in_ok-tokens.ensures.answers told;
      only = only_of c.args.text.now c.whole.result t;
    }
