-- Proof obligations of `read` (src/source.rt).
use Rattle.wide_reader.proofs.Prelude.{Err, ap, err_from_is_err_and}
use Rattle.wide_reader.specs.declared.wide_error.WideReadError.TheVariants as errors
use Rattle.wide_reader.proofs.Told.{told_tokens, told_tested, same_cause, no_error}
use Rattle.wide_reader.proofs.source.read.Goals as goal

pub returns-in_err-tokens : goal.returns-in_err-tokens
returns-in_err-tokens c =
    let p = err_from_is_err_and c.from_residual.result c.from_residual.ensures.1 in
    rw (p.1, p.2) (record {
      answers = told_tokens c.args.text.now c.in_err-tokens.field-0.0 c.in_err-tokens.ensures.answers;
      long = λ h. ap (λ e. Err (errors.Text e)) (same_cause _ _ (c.in_err-tokens.ensures.long h));
    })

pub returns : goal.returns
returns c = record {
  answers = rw c.tested.ensures (told_tested c.args.text.now _ c.in_ok-tokens.tokens.items _ _ c.as_bytes.ensures.value c.deref.ensures.value
      c.in_ok-tokens.ensures.answers c.whole-read.ensures);
  long = λ h. no_error _ _ (c.in_ok-tokens.ensures.long h);
}
