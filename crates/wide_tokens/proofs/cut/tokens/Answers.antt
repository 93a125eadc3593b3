-- Proof obligations of `tokens` (src/cut.rt).
use Rattle.wide_tokens.proofs.Prelude.{List, ℕ, length, subst, refl, ap, arith, WideTokensReturns, too_long}
use Rattle.wide_tokens.proofs.Cutting.{whole}
use Rattle.wide_tokens.proofs.cut.tokens.Goals as goal

pub returns-then-bytes-gt-TEXT_LIMIT : goal.returns-then-bytes-gt-TEXT_LIMIT
returns-then-bytes-gt-TEXT_LIMIT c =
    let l = ap length c.as_bytes-bytes.ensures.value in
    record { answers = too_long (omega (arith, l, c.if-bytes-gt-TEXT_LIMIT.true)); long = λ h. refl }

pub returns : goal.returns
returns c =
    let l = ap length c.as_bytes-bytes.ensures.value in
    record {
      answers = subst (λ (xs : List ℕ). WideTokensReturns xs c.cut.result) c.as_bytes-bytes.ensures.value (whole c.as_bytes-bytes.result.now c.cut.result c.if-bytes-gt-TEXT_LIMIT.false c.cut.ensures);
      long = λ h. absurd (omega (arith, l, h, c.if-bytes-gt-TEXT_LIMIT.false));
    }
