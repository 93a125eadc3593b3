-- Proof obligations of `digits` (src/escape.rt).
use Rattle.wide_tokens.proofs.escape.digits.Goals as goal
use Rattle.wide_tokens.proofs.Prelude.{arith, get_or-take, length-take, nat_tests}
use Rattle.cel_tokens.proofs.EscapeDigits.{run_all}

pub returns-then-digits_len-count-clause-ascii : goal.returns-then-digits_len-count-clause-ascii
returns-then-digits_len-count-clause-ascii c i l b =
    (grind (arith, length-take, run_all, nat_tests, get_or-take))
